-- What every clash rule shows.
use Rattle.std.specs.Prelude.{◌≡◌, ℕ, ◌≤◌, Bool, false}

pub record Laws {A : Type 0} (items : A → ℕ) (clash : A → ℕ → ℕ → Bool) (most : ℕ) : Type 0 where
  -- clashing is mutual
  pub swap : (r : A) (a b : ℕ) → clash r a b ≡ clash r b a
  -- no item clashes with itself
  pub apart : (r : A) (a : ℕ) → clash r a a ≡ false
  -- there are at most as many items as the rule states, and it never states more than 512
  pub few : (r : A) → items r ≤ most
  pub cap : most ≤ 512
