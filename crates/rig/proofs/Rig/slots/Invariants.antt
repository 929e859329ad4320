use Rattle.std.proofs.Common.{◌≡◌, ℕ, ◌<◌, ◌≤◌, length, get_or}
use Rattle.rig.specs.Calm.{at}
use Rattle.rig.proofs.Rig.slots.Given as goal

abbrev pub invariant-loop-k : goal.invariant-loop-k
invariant-loop-k l =
    (length l.table ≡ 64) × ((j : ℕ) → j < l.k → get_or l.table j 0 ≡ (at l.nodes j).slot) × ((j : ℕ) → l.k ≤ j → get_or l.table j 0 ≡ 0)
