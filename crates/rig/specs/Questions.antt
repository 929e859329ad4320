-- What the rig tells of a node, and of all nodes.
use Rattle.std.specs.Prelude.{◌≡◌, ℕ, ◌<◌, ◌≤◌, cond, List, length, Ok, Err, Result, nat_lt, slice_index}
use Rattle.refusal.specs.declared.Refusal.{Refusal}
use Rattle.refusal.specs.declared.Refusal.TheVariants.{Node as NoNode}
use Rattle.map.specs.View.{nodes}
use Rattle.rig.specs.declared.Rig.{Rig}
use Rattle.rig.specs.declared.node.Node.{Node}
use Rattle.rig.specs.Calm.{at}

-- something of node k, or 3 for no node
abbrev pub told : {A : Type 0} → Rig → ℕ → (Node → A) → Result A Refusal
told rig k f = cond (nat_lt k (nodes rig.map)) (Ok (f (at rig.nodes k))) (Err NoNode)

-- the rig's slots as a table of 64 entries: a slot for each node, and 0 past them
pub record Slots (rig : Rig) (table : List ℕ) : Type 0 where
  pub long : length table ≡ 64
  pub each : (k : ℕ) → k < nodes rig.map → slice_index table k ≡ (at rig.nodes k).slot
  pub past : (k : ℕ) → nodes rig.map ≤ k → slice_index table k ≡ 0
