-- An array that a closure fills which changes nothing.
use Rattle.std.proofs.Common.{◌≡◌, ℕ, zero, suc, ◌+◌, ◌<◌, ◌≤◌, List, get_or, sym, subst, arith, inl, inr}
use Rattle.std.proofs.lemmas.Bool.{cases_eq}
use Rattle.std.specs.Array.{IsFromFnResult, IsFromFnResultFrom}
use denote.Param.Members.{Mut, Called}

module _ {F B : Type 0} (g : Mut F (ℕ × Unit {0}) B) (f : F) (ys : List B) (P : ℕ → B → Type 0)
    (each : (x : ℕ) (r : B) (q : F) → Called g f (x, tt) r q → (q ≡ f) × P x r) where
  from : (n i j : ℕ) (d : B) → i ≤ j → j < i + n → IsFromFnResultFrom g f ys i n → P j (get_or ys j d)
  from zero i j d l h made = absurd (omega arith)
  from (suc n) i j d l h (q, y, at, called, rest) =
      elim (cases_eq j i) [
        | inl e ↦ subst (λ (k : ℕ). P k (get_or ys k d)) (sym e) (subst (λ (z : B). P i z) (sym (at.1 d)) (each i y q called).1)
        | inr e ↦ from n (i + 1) j d (omega arith) (omega arith) (subst (λ (p : F). IsFromFnResultFrom g p ys (i + 1) n) (each i y q called).0 rest)
      ]

  -- what holds of each call's number and result holds of each place
  pub filled : (n : ℕ) → IsFromFnResult g f ys n → (j : ℕ) (d : B) → j < n → P j (get_or ys j d)
  filled n made j d l = from n 0 j d (omega arith) (omega arith) made.each
