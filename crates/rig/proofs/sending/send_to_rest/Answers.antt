use Rattle.std.proofs.Common.{◌≡◌, ℕ, ◌+◌, Bool, true, false, not, ◌&&◌, length, sym, ap, ◌∙◌, arith}
use Rattle.std.proofs.lemmas.Bool.{and_from}
use Rattle.marks.specs.View.{marked}
use Rattle.map.specs.View.{linked}
use Rattle.radio.specs.Ways.{puts}
use Rattle.rig.proofs.Neighbours.{lacked}
use Rattle.rig.specs.Board.{each}
use Rattle.rig.specs.Steps.{addressed, lacks}
use Rattle.rig.proofs.Rows.{each_none, each_sent, each_skipped, each-length, each_length_none, each_most}
use Rattle.rig.proofs.sending.send_to_rest.Goals as goal
use Rattle.rig.proofs.sending.send_to_rest.Goals.{then-linked+then-not-has, else-linked, else-linked-via-then-linked+else-not-has, else-linked-via-else-linked}

pub loop-receiver-init : goal.loop-receiver-init
loop-receiver-init g c = (each_none g.R.Radio.ways _ _ _, sym (each_length_none _ _))

pub overflow_add-sent : goal.overflow_add-sent
overflow_add-sent g c =
    let x = c.args.message in
    let e = c.loop-receiver.invariant.1 in
    omega (arith, each_most (lacks c.args.map.now c.args.but x.sender) (addressed x) c.loop-receiver.receiver)

pub loop-receiver-preserved : goal.loop-receiver-preserved
loop-receiver-preserved g c =
    let r = g.R.Radio in
    let m = c.args.map.now in
    let x = c.args.message in
    let j = c.loop-receiver.receiver in
    let p = lacks m c.args.but x.sender in
    let f = addressed x in
    let s = r.state c.args.radio.now in
    let t = r.state c.loop-receiver.radio in
    let n = length (each p f j) in
    let skipped : (e : p j ≡ false) → t ≡ puts r.ways s (each p f (j + 1)) = λ e. each_skipped r.ways s p f t j e c.loop-receiver.invariant.0 in
    let same : (e : p j ≡ false) → c.loop-receiver.sent ≡ length (each p f (j + 1)) = λ e. c.loop-receiver.invariant.1 ∙ sym (each-length p f j false e ∙ (let z : n + 0 ≡ n = omega arith in z)) in
    elim c.if-linked.branch [
      | then-linked+then-not-has w ↦
          let e : p j ≡ true = and_from (linked m x.sender j) (not (marked c.args.but j)) (sym c.linked.ensures ∙ w.if-linked.true) (ap not (sym w.has.ensures ∙ w.if-not-has.true)) in (
            each_sent r.ways s p f t (r.state c.if-linked.radio) j e c.loop-receiver.invariant.0 (ap r.state w.radio-is ∙ w.put.ensures),
            w.sent-is ∙ ap (λ (k : ℕ). k + 1) c.loop-receiver.invariant.1 ∙ sym (each-length p f j true e),
          )
      | else-linked w ↦ elim w.else-linked.branch [
        | else-linked-via-then-linked+else-not-has v ↦
            let e : p j ≡ false = lacked (linked m x.sender j) (marked c.args.but j) (λ _. sym v.has.ensures ∙ v.if-not-has.false) in
            (ap r.state w.radio-is ∙ skipped e, w.sent-is ∙ same e)
        | else-linked-via-else-linked v ↦
            let e : p j ≡ false = ap (λ (b : Bool). b && not (marked c.args.but j)) (sym c.linked.ensures ∙ v.if-linked.false) in
            (ap r.state w.radio-is ∙ skipped e, w.sent-is ∙ same e)
      ]
    ]
