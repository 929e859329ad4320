use Rattle.std.proofs.Common.{sym, below_more}
use Rattle.rules.proofs.link.LinkRule.new.Goals as goal

pub loop-a-preserved : goal.loop-a-preserved
loop-a-preserved c = below_more _ _ c.loop-a.invariant (sym c.if-not-linked.ensures)
