use Rattle.std.proofs.Common.{◌+◌, not, eqb, refl, ap, ◌∙◌, arith}
use Rattle.marks.proofs.Below.{count_le}
use Rattle.map.specs.View.{linked, nodes}
use Rattle.radio.specs.declared.message.Message.{Message}
use Rattle.radio.specs.Ways.{puts}
use Rattle.rig.specs.Board.{each}
use Rattle.rig.specs.Calm.{at}
use Rattle.rig.specs.Steps.{addressed}
use Rattle.rig.proofs.Settles.{lowest_is, lowest-none, settle_some, settle_none}
use Rattle.rig.proofs.Rig.settle.Goals as goal

pub overflow_add-turn : goal.overflow_add-turn
overflow_add-turn g c =
    let m = c.args.self.now.map.most in
    omega (arith, count_le (λ k. not (eqb (at c.args.self.now.nodes k).slot 0)) (nodes c.args.self.now.map), c.decided_count-turn.ensures)

pub returns-in_default : goal.returns-in_default
returns-in_default g c =
    settle_none g.R.Radio.ways c.args.self.now _ _ _ c.args.k (lowest-none (at c.args.self.now.nodes c.args.k).taken c.in_default.ensures) c.give_up.ensures

pub returns : goal.returns
returns g c =
    let r = g.R.Radio in
    let rig = c.args.self.now in
    let m = rig.map in
    let i = c.in-Some.mark in
    let (l, e, f) = c.in-Some.ensures in
    let slotted : Message → Message = λ x. record { kind = x.kind; sender = x.sender; receiver = x.receiver; round = x.round; slot = i + 1; slots = x.slots } in
    settle_some r.ways rig _ _ _ c.args.k i c.decided_count-turn.result l
    (lowest_is (at rig.nodes c.args.k).taken i l e f) c.decided_count-turn.ensures refl refl
    (c.send_to_all.ensures ∙ ap (λ (x : Message). puts r.ways (r.state c.args.radio.now) (each (linked m x.sender) (addressed (slotted x)) (nodes m))) c.new.ensures)
