use Rattle.job.proofs.Turns.{Through}
use Rattle.job.proofs.playing.play_all.Given as goal

abbrev pub invariant-loop-record : goal.invariant-loop-record
invariant-loop-record g l = let r = g.R.Radio in Through r.ways l.map l.job (r.state l.initial.radio) l.record-iterator l.play (r.state l.radio)
