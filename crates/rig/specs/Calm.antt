-- What a rig's type keeps of its nodes: a node in request has no slot.
use Rattle.std.specs.Prelude.{◌≡◌, ℕ, Bool, true, false, List, slice_index_or}
use Rattle.marks.specs.Sets.{none}
use Rattle.rig.specs.declared.node.Node.{Node}
use Rattle.rig.specs.declared.node.Phase.{Phase}
use Rattle.rig.specs.declared.node.Phase.TheVariants.{Idle, Request, Grant, Release}

-- a node as it is in a new rig
abbrev pub blank : Node
blank = record { phase = Idle; slot = 0; turn = 0; round = 0; dated = 0; granted = none; taken = none; heard = none; holder = 0; term = 0 }

-- node k
abbrev pub at : List Node → ℕ → Node
at nodes k = slice_index_or nodes k blank

abbrev pub is_request : Phase → Bool
is_request Idle = false
is_request Request = true
is_request Grant = false
is_request Release = false

abbrev pub is_grant : Phase → Bool
is_grant Idle = false
is_grant Request = false
is_grant Grant = true
is_grant Release = false

abbrev pub Calm : List Node → Type 0
Calm nodes = (k : ℕ) → is_request (at nodes k).phase ≡ true → (at nodes k).slot ≡ 0
