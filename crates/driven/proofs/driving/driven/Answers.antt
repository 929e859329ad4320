use Rattle.std.proofs.Common.{◌≡◌, ℕ, ◌<◌, rules, get_or, length, take, replicate, ◌∙◌, arith, length-take, get_or-take}
use lib.ListN.{length-replicate}
use Rattle.map.specs.View.{nodes}
use Rattle.driven.proofs.Drives.{drive_ok, drive_made, drive_accepted}
use Rattle.driven.proofs.driving.driven.Goals as goal

pub unwrap-deliveries-requires : goal.unwrap-deliveries-requires
unwrap-deliveries-requires c =
    let m = c.args.map.now in
    let most = m.most in
    let order = c.from_fn-order.result in
    let filled = c.from_fn-order.ensures.items in
    let count = c.from-count.result in
    let n : count ≡ nodes m = c.from-count.ensures ∙ c.count.ensures in
    let full : length order ≡ 64 = filled.long in
    let each : (k : ℕ) → k < 64 → get_or order k 0 ≡ k = λ k l. let told = (filled.at k 0 l).2.met in search rules in
    drive_ok m (take count order) (replicate 64 0) c.drive.new.slots c.drive.result
    (simp length-take (omega arith))
    (λ k l. get_or-take count order k 0 (omega arith) ∙ each k (omega arith))
    c.drive.ensures (simp length-replicate m.most)

pub returns : goal.returns
returns c =
    let m = c.args.map.now in
    let most = m.most in
    let order = c.from_fn-order.result in
    let filled = c.from_fn-order.ensures.items in
    let count = c.from-count.result in
    let n : count ≡ nodes m = c.from-count.ensures ∙ c.count.ensures in
    let full : length order ≡ 64 = filled.long in
    let each : (k : ℕ) → k < 64 → get_or order k 0 ≡ k = λ k l. let told = (filled.at k 0 l).2.met in search rules in
    let slots = c.drive.new.slots in
    let len : length slots ≡ 64 = c.drive.auto.slots in
    let made = drive_made m (take count order) (replicate 64 0) slots c.drive.result
    (simp length-take (omega arith))
    (λ k l. get_or-take count order k 0 (omega arith) ∙ each k (omega arith))
    c.drive.ensures c.unwrap-deliveries.result c.unwrap-deliveries.ensures in
    record {
      len = c.drive.auto.slots;
      slots = made.rands;
      accepted = drive_accepted m (replicate 64 0) slots c.unwrap-deliveries.result (omega arith) made;
      deliveries = made.six;
    }
