use Rattle.std.proofs.Common.{arith}
use Rattle.radio.specs.Ways.{AirRule}
use Rattle.runs.proofs.Onward.{reached_none, reached_more, performed}
use Rattle.runs.proofs.performing.perform.Goals as goal

pub loop-i-init : goal.loop-i-init
loop-i-init g c = reached_none _ _ _ _ _ _ c.open.new.self c.open.ensures.map c.open.ensures.nodes

pub append-decided-requires : goal.append-decided-requires
append-decided-requires g c = let few = c.loop-i.invariant.few in let space = c.if-order-calls.false in let long = c.loop-i.auto.order in let l = c.loop-i-test.true in omega arith

pub loop-i-preserved : goal.loop-i-preserved
loop-i-preserved g c =
    let space = c.if-answers-calls.false in
    let long = c.loop-i.auto.answers in
    let l = c.loop-i-test.true in
    let call = c.make.ensures in
    let on = c.append-decided.ensures in
    let (up, most) = on.place in
    reached_more _ _ _ _ _ _ _ _ c.loop-i.rig c.make.new.rig _ _ _ _ _ c.make.result c.decider.result
    c.loop-i.invariant l (omega arith) call.map call.nodes call.radio call.value call.single c.decider.ensures _ _ on.first on.rest up most

pub returns : goal.returns
returns g c =
    let met = g.met.R.Radio in
    let rule : AirRule g.R.Radio.ways = record { put_air = met.put_air; take_air = met.take_air; taken_air = met.taken_air } in (
      c.if-answers-calls.false,
      c.if-order-calls.false,
      performed _ _ _ _ _ _ rule c.loop-i.i c.loop-i.decided c.loop-i.rig c.loop-i.answers c.loop-i.order _ (let l = c.loop-i-test.false in let u = c.loop-i.auto.i-end in omega arith) c.loop-i.invariant,
    )
