-- What `==` of sets of marks tells.
use Rattle.std.specs.Prelude.{◌≡◌, ℕ, zero, suc, ◌<◌, refl, Decides, ◌==◌}
use Rattle.std.proofs.Common.{ap, arith}
use Rattle.std.proofs.lemmas.Bool.Decides.{Decides-eqb, Decides-like}
use Rattle.std.proofs.lemmas.Nat.Bits.{bit_at-lt, same_from_bits_below}
use Rattle.marks.specs.View.{bit, marked, Fits}
use Rattle.marks.specs.Sets.{Same}
use Rattle.marks.specs.declared.Marks.{Marks}
use Rattle.marks.specs.contracts.MarksPartialEq.TheImpl as written

-- a digit is 0 or 1, and so is what the test for 1 says
digit : (x y : ℕ) → x < 2 → y < 2 → (x == 1) ≡ (y == 1) → x ≡ y
digit zero zero h k e = refl
digit zero (suc zero) h k e = let z : ◌≡◌ {A = ℕ} 0 1 = cc in z
digit (suc zero) zero h k e = let z : ◌≡◌ {A = ℕ} 1 0 = cc in z
digit (suc zero) (suc zero) h k e = refl
digit (suc (suc x)) y h k e = absurd (let z : ⊥ = omega arith in z)
digit x (suc (suc y)) h k e = absurd (let z : ⊥ = omega arith in z)

-- of every two sets of marks, `==` tells whether they are one value
pub eq_tells_value : (a b : Marks) → Decides (written.ghosts.eq a b) (a ≡ b)
eq_tells_value a b =
    Decides-like (a.bits == b.bits) (λ e. ap (λ (n : ℕ). record { bits = n }) e) (λ e. ap (λ (m : Marks). m.bits) e) (Decides-eqb a.bits b.bits)

-- and whether they hold the same marks
pub eq_tells_same : (a b : Marks) → Fits a → Fits b → Same a b (written.ghosts.eq a b)
unfolding bit
eq_tells_same a b h l = record { marks = Decides-like (a.bits == b.bits) (λ e j _. ap (λ (m : Marks). marked m j) e) same value; value = value }
  where
    value : Decides (a.bits == b.bits) (a ≡ b)
    value = eq_tells_value a b

    same : ((j : ℕ) → j < 64 → marked a j ≡ marked b j) → a ≡ b
    same f = ap (λ (n : ℕ). record { bits = n }) (same_from_bits_below 64 a.bits b.bits h l (λ i k. digit _ _ (bit_at-lt a.bits i) (bit_at-lt b.bits i) (f i k)))
