use Rattle.std.proofs.Common.{rules, tests, true, false, ◌∙◌, length, ◌≡◌, arith}
use Rattle.std.proofs.lemmas.Iterator.{first_from_Range}
use Rattle.schedule.specs.Rand.{holds}
use Rattle.schedule.specs.Order.{entries}
use Rattle.schedule.proofs.Slots.{least_search}
use Rattle.schedule.proofs.planning.lowest.Goals as goal

pub returns : goal.returns
returns g c =
    let clash = g.C.ClashRule.clash c.args.rule.now in
    let n = length c.args.slots.now in
    let f = entries c.args.slots.now in
    c.unwrap_or.ensures
    ∙ least_search clash n f c.args.a c.limit.result (omega (arith, c.limit.ensures, c.requires.few.0)) c.find.result
    (first_from_Range _ _ _ c.find.result (λ s. holds clash n f c.args.a s ≡ false) (λ s. holds clash n f c.args.a s ≡ true)
    c.find.ensures.ran (λ x q k. search (rules, tests)) (λ x q k. search (rules, tests)))
