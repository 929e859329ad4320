use Rattle.std.proofs.Common.{◌≡◌}
use Rattle.rig.specs.Calm.{at}
use Rattle.drive.proofs.Episode.{work}
use Rattle.drive.proofs.Going.{Going}
use Rattle.drive.proofs.settling.settle.Given as goal

abbrev pub invariant-loop-came : goal.invariant-loop-came
invariant-loop-came g l =
    let r = g.R.Radio in
    (l.rig.map ≡ l.initial.rig.map)
    × Going r.ways l.initial.rig.map l.a l.initial.rig.nodes (r.state l.initial.radio) l.rig.nodes (r.state l.radio) l.came

abbrev pub decreases-loop-came : goal.decreases-loop-came
decreases-loop-came g l = work l.initial.rig.map l.a (at l.rig.nodes)
