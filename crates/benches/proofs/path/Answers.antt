use Rattle.benches.proofs.Paths.{line_more}
use Rattle.benches.proofs.path.Goals as goal

pub loop-a-preserved : goal.loop-a-preserved
loop-a-preserved c = line_more c.clamp-count.result c.loop-a.a _ _ _ c.loop-a-test.true c.loop-a.invariant c.link.ensures.answer c.link.ensures.after
