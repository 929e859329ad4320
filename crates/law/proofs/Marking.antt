-- Which marks a set has after marks were added.
use Rattle.std.proofs.Common.{◌≡◌, ℕ, ◌<◌, Bool, true, ◌||◌, eqb, ◌⊎◌, sym, ◌∙◌, inl, inr, ⊎_elim}
use Rattle.std.proofs.lemmas.Bool.{or_cases, or_left, or_right, eqb-true, eq-eqb, both_ways, cases_lt}
use Rattle.marks.specs.declared.Marks.{Marks}
use Rattle.marks.specs.View.{marked}
use Rattle.marks.specs.Sets.{collect, none, joined, added}
use Rattle.marks.proofs.Sets.{marked-none, marked-collect, marked_past, fits_collect}

pub none-marked : {A : Type 0} (j : ℕ) → marked none j ≡ true → A
none-marked j h = absurd (both_ways (marked none j) (marked-none j) h)

collected : (p : ℕ → Bool) (j : ℕ) → marked (collect p) j ≡ true → p j ≡ true
collected p j h = ⊎_elim
    (λ l. sym (marked-collect p j l) ∙ h)
    (λ l. absurd (both_ways (marked (collect p) j) (marked_past (collect p) j (fits_collect p) l) h)) (cases_lt j 64)

pub joined_cases : (a b : Marks) (j : ℕ) → marked (joined a b) j ≡ true → (marked a j ≡ true) ⊎ (marked b j ≡ true)
joined_cases a b j h = or_cases (marked a j) (marked b j) (collected (λ i. marked a i || marked b i) j h)

pub joined_left : (a b : Marks) (j : ℕ) → j < 64 → marked a j ≡ true → marked (joined a b) j ≡ true
joined_left a b j l h = marked-collect (λ i. marked a i || marked b i) j l ∙ or_left (marked a j) (marked b j) h

pub joined_right : (a b : Marks) (j : ℕ) → j < 64 → marked b j ≡ true → marked (joined a b) j ≡ true
joined_right a b j l h = marked-collect (λ i. marked a i || marked b i) j l ∙ or_right (marked a j) (marked b j) h

pub added_cases : (a : Marks) (i j : ℕ) → marked (added a i) j ≡ true → (marked a j ≡ true) ⊎ (j ≡ i)
added_cases a i j h = ⊎_elim inl (λ e. inr (eqb-true j i e)) (or_cases (marked a j) (eqb j i) (collected (λ k. marked a k || eqb k i) j h))

pub added_old : (a : Marks) (i j : ℕ) → j < 64 → marked a j ≡ true → marked (added a i) j ≡ true
added_old a i j l h = marked-collect (λ k. marked a k || eqb k i) j l ∙ or_left (marked a j) (eqb j i) h

pub added_new : (a : Marks) (i j : ℕ) → j < 64 → j ≡ i → marked (added a i) j ≡ true
added_new a i j l e = marked-collect (λ k. marked a k || eqb k i) j l ∙ or_right (marked a j) (eqb j i) (eq-eqb j i e)
