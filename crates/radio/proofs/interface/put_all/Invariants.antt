use Rattle.std.proofs.Common.{◌≡◌, take}
use Rattle.radio.specs.Ways.{puts}
use Rattle.radio.proofs.interface.put_all.Given as goal

abbrev pub invariant-loop-message : goal.invariant-loop-message
invariant-loop-message g l =
    let r = g.R.Radio in
    r.state l.radio ≡ puts r.ways (r.state l.initial.radio) (take l.message-index l.messages)
