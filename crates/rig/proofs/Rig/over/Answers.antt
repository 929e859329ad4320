use Rattle.std.proofs.Common.{length, replicate, sym, ap, subst}
use Rattle.rig.specs.declared.node.Node.{Node}
use Rattle.rig.specs.Calm.{Calm}
use Rattle.rig.specs.Board.{Board}
use Rattle.rig.proofs.Calms.{calm_new}
use Rattle.rig.proofs.Rig.over.Goals as goal

pub invariant_of-result : goal.invariant_of-result
invariant_of-result c =
    let e = ap (λ (v : Node). replicate 64 v) c.blank_node.ensures in
    record { full = ap (λ (b : Board). length b) e; calm = subst Calm (sym e) calm_new }
