use Rattle.std.proofs.Common.{rules, tests, arith}
use Rattle.marks.proofs.Below.{sum_le}
use Rattle.marks.proofs.Ranges.{sum_of_range, sum_of_range_fits}
use Rattle.map.specs.View.{degree, nodes}
use Rattle.map.proofs.Counts.{twice_links, degree_le}
use Rattle.map.proofs.Map.links.Goals as goal

pub sum-ends-requires-clause-fits : goal.sum-ends-requires-clause-fits
sum-ends-requires-clause-fits c =
    let m = c.args.self.now in
    let few = m.most in
    let l = sum_le (degree m) 64 (nodes m) (λ i _. degree_le m i) in
    sum_of_range_fits (degree m) (nodes m) _ (cc) c.map.ensures.closure (λ x r q k. search (rules, tests)) (omega arith)

pub returns : goal.returns
returns c =
    let m = c.args.self.now in
    let e = sum_of_range (degree m) (nodes m) _ c.sum-ends.ensures.ran (cc) c.map.ensures.closure (λ x r q k. search (rules, tests)) in
    let t = twice_links m in
    omega arith
