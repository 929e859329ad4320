use Rattle.std.proofs.Common.{◌≡◌, not, ◌==◌, take, count_by, rules, ◌∙◌, arith}
use Rattle.std.proofs.iter.runs.Made.{chains}
use Rattle.map.specs.View.{nodes}
use Rattle.rig.specs.declared.node.Node.{Node}
use Rattle.rig.proofs.Decided.{count_by-take}
use Rattle.rig.proofs.Rig.decided_count.Goals as goal

pub returns : goal.returns
returns c =
    let rig = c.args.self.now in
    let w = rig.map.most in
    let full = rig.full in
    let e : c.count-2.result ≡ count_by (λ (v : Node). not (v.slot == 0)) (take (nodes rig.map) rig.nodes) = search (rules, chains) in
    e ∙ count_by-take (λ (v : Node). not (v.slot == 0)) rig.nodes (nodes rig.map) (omega arith)
