use Rattle.std.proofs.Common.{◌≡◌, take}
use Rattle.drive.specs.Settling.{Settled}
use Rattle.drive.proofs.settling.settle_in_order.Given as goal

abbrev pub invariant-loop-node : goal.invariant-loop-node
invariant-loop-node g l =
    let r = g.R.Radio in
    (l.rig.map ≡ l.initial.rig.map) × Settled r.ways l.initial.rig.map (take l.node-index l.order) l.rig.nodes (r.state l.radio) l.count
