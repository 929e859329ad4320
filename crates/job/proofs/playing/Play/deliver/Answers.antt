use Rattle.std.proofs.Common.{sym}
use Rattle.job.proofs.Turns.{turned_more, turned_off, turned_all}
use Rattle.job.proofs.playing.Play.deliver.Goals as goal

pub loop-turn-preserved : goal.loop-turn-preserved
loop-turn-preserved g c = turned_more _ _ _ _ _ _ _ _ _ _ c.loop-turn.invariant c.loop-turn-test.true c.call-answer.ensures.went c.call-answer.ensures.value (sym c.if-is_nothing.ensures)

pub returns-then-is_nothing : goal.returns-then-is_nothing
returns-then-is_nothing g c = turned_off _ _ _ _ _ _ _ _ _ _ c.loop-turn.invariant c.loop-turn-test.true c.call-answer.ensures.went c.call-answer.ensures.value (sym c.if-is_nothing.ensures)

pub returns : goal.returns
returns g c = turned_all _ _ _ _ _ _ _ c.loop-turn.invariant c.loop-turn-test.false
