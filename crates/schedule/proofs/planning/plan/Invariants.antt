use Rattle.std.proofs.Common.{◌≡◌, ℕ, ◌<◌, get_or, take, length}
use Rattle.schedule.specs.Rand.{rand}
use Rattle.schedule.proofs.planning.plan.Given as goal

abbrev pub invariant-loop-item : goal.invariant-loop-item
invariant-loop-item g l =
    (length l.table ≡ l.count) × ((k : ℕ) → k < l.count → get_or l.table k 0 ≡ rand (g.C.ClashRule.clash l.rule) l.count (take l.item-index l.order) k)
