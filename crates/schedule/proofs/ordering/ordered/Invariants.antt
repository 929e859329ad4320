use Rattle.std.proofs.Common.{ℕ, map}
use Rattle.schedule.specs.Order.{Numbers}
use Rattle.schedule.specs.Rand.{FineTo}
use Rattle.schedule.proofs.ordering.ordered.Given as goal

abbrev pub invariant-loop-place : goal.invariant-loop-place
invariant-loop-place g l =
    (number : _ → ℕ) → Numbers g.I.Into.converts number → FineTo l.count (map number l.order) l.place
