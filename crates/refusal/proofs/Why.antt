-- A refusal comes for the reason at its number, or otherwise.
use Rattle.std.proofs.Common.{ℕ, Bool, true, false, eqb, ◌⊎◌, inl, inr}
use Rattle.refusal.specs.Entry.{Why}

pub Why-cases : (number at : ℕ) (P Q : Type 0) → Why number at P Q → P ⊎ Q
Why-cases number at P Q h = go (eqb number at) h
  where
    go : (b : Bool) → elim b as (λ _. Type 0) [ true ↦ P | false ↦ Q ] → P ⊎ Q
    go true p = inl p
    go false q = inr q
