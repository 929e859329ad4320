use Rattle.runs.proofs.Onward.{Reached}
use Rattle.runs.proofs.performing.perform.Given as goal

abbrev pub invariant-loop-i : goal.invariant-loop-i
invariant-loop-i g l = let r = g.R.Radio in Reached r.ways l.map (r.state l.initial.radio) l.calls l.initial.answers l.initial.order l.i l.decided l.rig l.answers l.order (r.state l.radio)
