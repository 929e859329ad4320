use Rattle.std.proofs.Common.{◌≡◌, ℕ, ◌<◌, ◌≤◌, List, ◌++◌, length, get_or, drop, Ok, ap, ◌∙◌, arith, take_all, Err, rules}
use Rattle.std.proofs.lemmas.List.{get_or_append_left, length-append}
use Rattle.schedule.specs.Rand.{rand, Fine}
use Rattle.schedule.proofs.Accept.{rand_accepted}
use Rattle.schedule.proofs.Rand.{rand_law}
use Rattle.schedule.proofs.Repeated.{of_numbers}
use Rattle.schedule.proofs.Table.{cleared, put_back, table_turn, table_is}
use Rattle.schedule.proofs.planning.plan.Goals as goal

pub returns-in_err-ordered-clause-after : goal.returns-in_err-ordered-clause-after
returns-in_err-ordered-clause-after g c =
    let disordered = of_numbers c.bounded-count.result c.args.order.now (Err c.in_err-ordered.field-0.0) c.in_err-ordered.ensures in
    search (rules, disordered)

pub loop-item-init : goal.loop-item-init
loop-item-init g c =
    cleared c.bounded-count.result c.args.slots.now (omega arith) (g.C.ClashRule.clash c.args.rule.now) c.fill.new.self (c.fill.ensures.after (λ y e. e))

pub bounds-table-a : goal.bounds-table-a
bounds-table-a g c =
    let fine = of_numbers c.bounded-count.result c.args.order.now (Ok tt) c.in_ok-ordered.ensures in
    let inside = (fine c.loop-item.item-index c.loop-item-test.true).0 in
    omega (arith, c.loop-item.invariant.0, c.from-a.ensures)

pub loop-item-preserved : goal.loop-item-preserved
loop-item-preserved g c =
    table_turn (g.C.ClashRule.clash c.args.rule.now) c.bounded-count.result c.args.order.now c.loop-item.table
    (of_numbers c.bounded-count.result c.args.order.now (Ok tt) c.in_ok-ordered.ensures)
    c.loop-item.item-index c.from-a.result c.lowest.result c.loop-item-test.true c.loop-item.invariant.0 c.from-a.ensures c.lowest.ensures c.loop-item.invariant.1

pub returns : goal.returns
returns g c =
    let rule = c.args.rule.now in
    let order = c.args.order.now in
    let before = c.args.slots.now in
    let table = c.loop-item.table in
    let count = c.bounded-count.result in
    let slots = table ++ drop count before in
    let clash = g.C.ClashRule.clash rule in
    let n = g.C.ClashRule.items rule in
    let laws = g.C.ClashRule.laws in
    let e : count ≡ n = c.bounded-count.ensures.value in
    let whole = take_all c.loop-item.item-index order c.loop-item-test.false in
    let ordered = of_numbers count order (Ok tt) c.in_ok-ordered.ensures in
    let fine : Fine n order = λ j l. let f = ordered j l in (omega (arith, f.0), f.1) in
    let is : (k : ℕ) → k < n → get_or slots k 0 ≡ rand clash n order k
    = λ k l.
    get_or_append_left table (drop count before) 0 k (omega (arith, c.loop-item.invariant.0)) ∙ c.loop-item.invariant.1 k (omega arith)
    ∙ ap (λ (xs : List ℕ). rand clash count xs k) whole ∙ ap (λ (m : ℕ). rand clash m order k) e in
    let long : n ≤ length slots = omega (arith, length-append table (drop count before), c.loop-item.invariant.0) in
    let relation = table_is clash n order slots fine is in
    record {
      after = (omega arith, fine, is, λ k l. put_back count before (omega arith) table c.loop-item.invariant.0 k (omega arith));
      sound = (relation, rand_accepted clash n (laws.swap rule) (laws.apart rule) order slots long relation, rand_law clash n (laws.swap rule) (laws.apart rule));
    }
