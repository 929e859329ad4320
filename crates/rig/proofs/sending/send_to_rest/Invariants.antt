use Rattle.std.proofs.Common.{◌≡◌, length}
use Rattle.radio.specs.Ways.{puts}
use Rattle.rig.specs.Board.{each}
use Rattle.rig.specs.Steps.{addressed, lacks}
use Rattle.rig.proofs.sending.send_to_rest.Given as goal

abbrev pub invariant-loop-receiver : goal.invariant-loop-receiver
invariant-loop-receiver g l =
    let r = g.R.Radio in
    let out = each (lacks l.map l.but l.message.sender) (addressed l.message) l.receiver in
    (r.state l.radio ≡ puts r.ways (r.state l.initial.radio) out) × (l.sent ≡ length out)
