use Rattle.std.proofs.Common.{rules, tests, ◌≡◌, ◌∙◌, sym, ap, take}
use Rattle.std.proofs.lemmas.List.{get_or-map}
use Rattle.std.proofs.lemmas.Iterator.{YieldsList-from_slice, cases_from_any}
use Rattle.schedule.proofs.Repeated.{repeats_decides}
use Rattle.schedule.proofs.ordering.repeats.Goals as goal

pub returns : goal.returns
returns g c number says =
    let order = c.args.order.now in
    let item = c.index-order-place.result in
    let e : c.into-item.result ≡ number item = says item c.into-item.result c.into-item.ensures in
    repeats_decides number order c.args.place item c.requires
    (ap number c.index-order-place.is ∙ sym (get_or-map number order c.args.place item 0 c.requires)) c.any.result
    (cases_from_any _ _ c.any.result (λ x. number x ≡ number item) (λ x. number x ≡ number item → ⊥) c.any.ensures.ran (YieldsList-from_slice (take c.args.place order) (cc))
    (λ x q k. search (rules, tests, says x.now, e)) (λ x q k. search (rules, tests, says x.now, e)))
