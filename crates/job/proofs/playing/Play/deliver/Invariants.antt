use Rattle.job.proofs.Turns.{Turned}
use Rattle.job.proofs.playing.Play.deliver.Given as goal

abbrev pub invariant-loop-turn : goal.invariant-loop-turn
invariant-loop-turn g l = let r = g.R.Radio in Turned r.ways l.times l.initial.self (r.state l.initial.radio) l._turn l.self (r.state l.radio)
