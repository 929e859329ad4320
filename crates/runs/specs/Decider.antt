-- A node below n that decides between two boards, or that none does; for an inner function, no public contract rests on it.
use Rattle.std.specs.Prelude.{◌≡◌, ℕ, ◌<◌, true, false, Some, None, Option}
use Rattle.rig.specs.Board.{Board}
use Rattle.law.specs.Runs.{decides}

abbrev pub Decider : ℕ → Board → Board → Option ℕ → Type 0
Decider n b b' None = (k : ℕ) → k < n → decides b b' k ≡ false
Decider n b b' (Some k) = (k < n) × (decides b b' k ≡ true)
