use Rattle.std.proofs.Common.{ap, sym, ◌∙◌, arith, below_more}
use Rattle.std.proofs.lemmas.Bool.Decides.{not_from_Decides}
use Rattle.std.proofs.lemmas.List.{get_or-map, length-map}
use Rattle.schedule.proofs.ordering.ordered.Goals as goal

pub returns-then-repeats : goal.returns-then-repeats
returns-then-repeats g c number says =
    let order = c.args.order.now in
    let i = c.loop-place.place in
    let item = c.index-order-place.result in
    let at = get_or-map number order i item 0 c.loop-place-test.true ∙ ap number (sym c.index-order-place.is) in
    let e = says item c.into.result c.into.ensures in
    (i, omega (arith, length-map order number), c.loop-place.invariant number says, omega arith, (c.repeats.ensures number says).0 c.if-repeats.true)

pub loop-place-preserved : goal.loop-place-preserved
loop-place-preserved g c number says =
    let order = c.args.order.now in
    let i = c.loop-place.place in
    let item = c.index-order-place.result in
    let at = get_or-map number order i item 0 c.loop-place-test.true ∙ ap number (sym c.index-order-place.is) in
    let e = says item c.into.result c.into.ensures in
    below_more _ _ (c.loop-place.invariant number says) (omega arith, not_from_Decides c.repeats.result (c.repeats.ensures number says) c.if-repeats.false)
