use Rattle.std.proofs.Common.{◌≡◌, ℕ, ap, ◌∙◌, arith, rules, tests}
use Rattle.std.specs.List.{range_with_len, sum_by}
use Rattle.std.proofs.lemmas.Iterator.{YieldsList-from_range, YieldsList-from_map}
use Rattle.std.proofs.lemmas.Iterator.Adapters.{fits_from_length, at_most_from_yields_List}
use Rattle.std.proofs.lemmas.Iterator.Consumers.{sum_by_from_yields_List}
use Rattle.std.proofs.lemmas.List.FromFn.{length-range_with_len}
use Rattle.map.specs.View.{nodes, contend, contender_count}
use Rattle.map.proofs.Contends.{contend_mutual, contend_apart}
use Rattle.map.proofs.Counts.{handshake}
use Rattle.marks.proofs.Below.{sum_by-range}
use Rattle.report.proofs.writing.contending_pairs.Goals as goal

pub sum-ends-requires-clause-fits : goal.sum-ends-requires-clause-fits
sum-ends-requires-clause-fits c =
    fits_from_length _ _ 256 _ (at_most_from_yields_List (YieldsList-from_range 0 c.count.result c.count.result c.map.ensures.source (omega arith)) (simp length-range_with_len (omega arith)))
    c.map.ensures.closure (omega arith) (λ x r q k. search (rules, tests))

pub returns : goal.returns
returns c =
    let m = c.args.map.now in
    let n = c.count.result in
    let ends : c.sum-ends.result ≡ sum_by (contender_count m) (range_with_len 0 n) =
    sum_by_from_yields_List (contender_count m) (range_with_len 0 n) _ c.sum-ends.result c.sum-ends.ensures.ran
    (YieldsList-from_map _ (contender_count m) (YieldsList-from_range 0 n n c.map.ensures.source (omega arith)) c.map.ensures.closure (λ x r q k. search (rules, tests))) in
    let t = handshake (contend m) (contend_mutual m) (contend_apart m) (nodes m) in
    let low = ap (λ (k : ℕ). sum_by (contender_count m) (range_with_len 0 k)) c.count.ensures ∙ sum_by-range (contender_count m) (nodes m) in
    omega arith
