use Rattle.std.proofs.Common.{ℕ, ◌<◌}
use Rattle.schedule.specs.Sharing.{Alone, Largest}
use Rattle.schedule.proofs.checking.check.Given as goal

abbrev pub invariant-loop-a : goal.invariant-loop-a
invariant-loop-a g l = ((x : ℕ) → x < l.a → Alone (g.C.ClashRule.clash l.rule) l.table x l.count) × Largest l.a l.table l.largest
