use Rattle.std.proofs.Common.{◌≡◌, ℕ, ◌≤◌, ◌++◌, List, length, get_or, drop, sym, ap, ◌∙◌, subst, arith}
use Rattle.std.proofs.lemmas.List.{length-take-le, get_or-take, get_or_append_left}
use Rattle.map.specs.View.{nodes}
use Rattle.map.specs.declared.Map.{Map}
use Rattle.schedule.specs.Rand.{Fine}
use Rattle.schedule.proofs.Table.{put_back}
use Rattle.radio.specs.Queue.{queue_ways}
use Rattle.radio.specs.Waiting.{waiting}
use Rattle.law.specs.Law.{SlotLaw}
use Rattle.drive.specs.Drive.{Whole}
use Rattle.drive.specs.Settling.{Settled}
use Rattle.drive.proofs.Driven.{drives_all}
use Rattle.drive.proofs.Queue.{queue_sure}
use Rattle.drive.proofs.driving.drive.Goals as goal

pub settle_in_order-deliveries-requires : goal.settle_in_order-deliveries-requires
settle_in_order-deliveries-requires c = record {
  sure = queue_sure;
  new = c.open.ensures.nodes;
  empty = c.new-queue.ensures;
  fine = subst (λ (n : ℕ). Fine n c.args.order.now) (c.count-2.ensures ∙ ap nodes (sym c.open.ensures.map)) c.in_ok-judge.ensures.fine;
}

pub returns : goal.returns
returns c =
    let m = c.args.map.now in
    let order = c.args.order.now in
    let before = c.args.slots.now in
    let rig = c.settle_in_order-deliveries.new.rig in
    let s = waiting c.settle_in_order-deliveries.new.radio.air in
    let n = c.settle_in_order-deliveries.result in
    let came = c.settle_in_order-deliveries.ensures in
    let opened = c.open.ensures.map in
    let count : c.from-count.result ≡ nodes m = c.from-count.ensures ∙ c.count.ensures in
    let same : nodes rig.map ≡ nodes m = ap nodes (came.map ∙ opened) in
    let whole = subst (λ (k : ℕ). Whole k order) c.count-2.ensures c.in_ok-judge.ensures in
    let long : nodes m ≤ length before = omega arith in
    let table = c.copy_from_slice.new.self in
    let full : length table ≡ c.from-count.result = c.copy_from_slice.ensures.len ∙ length-take-le c.from-count.result before (omega arith) in (
      long,
      whole,
      drives_all m order before (table ++ drop c.from-count.result before) rig.nodes s n
          (subst (λ (x : Map). Settled queue_ways x order rig.nodes s n) opened came.settled) (subst (λ (x : Map). SlotLaw x order rig.nodes) opened came.law) whole
          (λ k l.
          get_or_append_left table (drop c.from-count.result before) 0 k (omega arith) ∙ ap (λ (xs : List ℕ). get_or xs k 0) c.copy_from_slice.ensures.after
          ∙ get_or-take c.from-count.result c.slots.result k 0 (omega arith) ∙ c.slots.ensures.each k (omega arith))
          (λ k l. put_back c.from-count.result before (omega arith) table full k (omega arith)),
    )
