use Rattle.std.proofs.Common.{◌≡◌, ℕ, ◌<◌, length, get_or, take, replicate, ◌∙◌, arith, length-take, get_or-take, rules}
use lib.ListN.{length-replicate}
use Rattle.map.specs.View.{nodes}
use Rattle.report.proofs.Plans.{plan_rising, zeros}
use Rattle.report.proofs.planning.planned.Goals as goal

pub returns : goal.returns
returns c =
    let m = c.args.map.now in
    let k = m.most in
    let order = c.from_fn-order.result in
    let made = c.from_fn-order.ensures.items in
    let count = c.from-count.result in
    let n : count ≡ nodes m = c.from-count.ensures ∙ c.count.ensures in
    let full : length order ≡ 64 = made.long in
    let each : (k : ℕ) → k < 64 → get_or order k 0 ≡ k = λ k l. let told = (made.at k 0 l).2.met in search rules in
    let all = plan_rising m c.new.result.map.now (take count order) (replicate 64 0) c.plan.new.slots c.plan.result c.new.ensures.map
    (simp length-take (omega arith))
    (λ k l. get_or-take count order k 0 (omega arith) ∙ each k (omega arith))
    (simp length-replicate m.most) c.plan.ensures.after c.plan.ensures.sound in
    record { len = c.plan.auto.slots; slots = all.0; past = λ i l. all.2 i l ∙ zeros 64 i; accepted = all.1 }
