-- Laws of sets of marks: what `collect` holds, and that a set is what its marks are.
use Rattle.std.proofs.Common.{◌≡◌, ℕ, ◌<◌, ◌≤◌, Bool, false, not, ◌&&◌, eqb, ◌⊎◌, sym, ap, ◌∙◌, inl, inr}
use Rattle.std.proofs.lemmas.Bool.{cases_eq, ne_eqb}
use Rattle.marks.specs.View.{marked, Fits}
use Rattle.marks.specs.Sets.{collect, none}
use Rattle.marks.specs.Equal.{eq_tells_same}
use Rattle.marks.specs.declared.Marks.{Marks}
use Rattle.marks.proofs.Digits.{bit_zero, bit_past, bit-made, made_lt, and_not_none}
pub use Rattle.marks.proofs.Digits.{or_none}

-- two sets with the same marks are equal
pub same_marks : (a b : Marks) → Fits a → Fits b → ((j : ℕ) → j < 64 → marked a j ≡ marked b j) → a ≡ b
same_marks a b h l f = let s = eq_tells_same a b h l in s.value.0 (s.marks.1 f)

pub marked_past : (m : Marks) (j : ℕ) → Fits m → 64 ≤ j → marked m j ≡ false
marked_past m j h l = bit_past m.bits 64 j h l

pub fits_collect : (p : ℕ → Bool) → Fits (collect p)
unfolding collect
fits_collect p = made_lt p 64

pub marked-collect : (p : ℕ → Bool) (j : ℕ) → j < 64 → marked (collect p) j ≡ p j
unfolding collect
marked-collect p j l = bit-made p 64 j l

pub marked-none : (j : ℕ) → marked none j ≡ false
marked-none j = bit_zero j

-- a set whose marks are the numbers that pass
pub is_collect : (m : Marks) (p : ℕ → Bool) → Fits m → ((j : ℕ) → j < 64 → marked m j ≡ p j) → m ≡ collect p
is_collect m p h f = same_marks m (collect p) h (fits_collect p) (λ j l. f j l ∙ sym (marked-collect p j l))

-- taking away a mark that is not there
pub unmarked : (p : ℕ → Bool) (i : ℕ) → p i ≡ false → (j : ℕ) → p j ≡ (p j && not (eqb j i))
unmarked p i f j = go (cases_eq j i)
  where
    go : (j ≡ i) ⊎ (j ≡ i → ⊥) → p j ≡ (p j && not (eqb j i))
    go (inl e) = let z = ap p e ∙ f in z ∙ ap (λ (x : Bool). x && not (eqb j i)) (sym z)
    go (inr d) = and_not_none (p j) (ne_eqb j i d)
