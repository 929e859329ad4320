-- The node rule: the items are the nodes of a map, and contenders clash.
use Rattle.std.specs.Prelude.{ℕ, Bool}
use Rattle.std.proofs.Common.{arith}
use Rattle.schedule.specs.Laws.{Laws}
use Rattle.map.specs.View.{nodes, contend}
use Rattle.map.proofs.Contends.{contend_mutual, contend_apart}
use Rattle.rules.specs.declared.node.NodeRule.{NodeRule}

abbrev pub node_items : NodeRule → ℕ
node_items r = nodes r.map.now

abbrev pub node_clash : NodeRule → ℕ → ℕ → Bool
node_clash r a b = contend r.map.now a b

pub node_laws : Laws node_items node_clash 64
node_laws = record {
  swap = λ r a b. contend_mutual r.map.now a b;
  apart = λ r a. contend_apart r.map.now a;
  few = λ r. r.map.now.most;
  cap = omega arith;
}
