use Rattle.std.proofs.Common.{◌≡◌, ◌≤◌, length, take, arith, length-take-le}
use Rattle.schedule.proofs.Accept.{clear_alone, clear_part, largest_same, largest_part}
use Rattle.schedule.proofs.checking.check.Goals as goal

pub returns : goal.returns
returns g c =
    let rule = c.args.rule.now in
    let slots = c.args.slots.now in
    let laws = g.C.ClashRule.laws in
    let n = g.C.ClashRule.items rule in
    let count = c.bounded-count.result in
    let e : count ≡ n = c.bounded-count.ensures.value in
    let l : count ≤ length slots = omega arith in
    let long : length (take count slots) ≡ count = length-take-le count slots l in
    let d : c.loop-a.a ≡ n = omega arith in (
      omega arith,
      (
        clear_part (g.C.ClashRule.clash rule) n count slots (omega arith)
            (clear_alone (g.C.ClashRule.clash rule) n (laws.swap rule) (laws.apart rule) (take count slots) count e (λ x q. c.loop-a.invariant.0 x (omega arith))),
        largest_part n count slots c.loop-a.largest (omega arith) (largest_same c.loop-a.a n (take count slots) c.loop-a.largest d c.loop-a.invariant.1),
      ),
    )
