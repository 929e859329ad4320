use Rattle.std.proofs.Common.{ap, ◌∙◌, take_all}
use Rattle.radio.specs.Ways.{puts}
use Rattle.radio.proofs.Puts.{puts_more, puts_air}
use Rattle.radio.proofs.interface.put_all.Goals as goal

pub loop-message-preserved : goal.loop-message-preserved
loop-message-preserved g c =
    let r = g.R.Radio in
    puts_more r.ways (r.state c.args.radio.now) (r.state c.loop-message.radio) (r.state c.put.new.self) c.args.messages.now c.loop-message.message-index _
    c.loop-message-test.true c.loop-message.invariant c.put.ensures

pub returns : goal.returns
returns g c =
    let r = g.R.Radio in
    let law = g.met.R.Radio in
    let s = r.state c.args.radio.now in
    record {
      after = c.loop-message.invariant ∙ ap (puts r.ways s) (take_all c.loop-message.message-index c.args.messages.now c.loop-message-test.false);
      air = puts_air r.ways (record { put_air = law.put_air; take_air = law.take_air; taken_air = law.taken_air }) s c.args.messages.now;
    }
