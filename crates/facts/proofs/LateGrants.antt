-- A node that asks twice, and a grant of its first round: each call, computed.
use Rattle.std.proofs.Common.{◌≡◌, [], ◌∷◌, Some, refl}
use Rattle.marks.specs.Below.{some_below, sum_below}
use Rattle.marks.specs.declared.Marks.{Marks}
use Rattle.map.specs.declared.Map.{Map}
use Rattle.radio.specs.declared.kind.Kind.TheVariants.{Grant as GrantKind, Reject as RejectKind}
use Rattle.rig.specs.Calm.{blank}
use Rattle.rig.specs.Board.{each}
use Rattle.rig.specs.declared.node.Node.{Node}
use Rattle.rig.specs.Steps.{asking, request, reject, grant, fail}
use Rattle.benches.specs.Paths.{path}
use Rattle.facts.proofs.Nets.{drawn_of, delivered_of}
use Rattle.facts.proofs.Meeting.{two, asked, gave, draws, answers}

-- a node that has asked twice
abbrev pub again : Node
again = asking asked

module _ (m : Map) where
  pub rejected : delivered_of m (path 2) (two asked blank) (Some (reject 1 1 0)) ≡ answers gave blank (fail 1 0 1 ∷ []) (Some RejectKind)
  unfolding each
  rejected = refl

  pub draw_again : drawn_of m (path 2) (two gave blank) 0 1 ≡ draws again blank (request 2 0 1)
  unfolding some_below sum_below each
  draw_again = refl

  pub late : (slots : Marks) → delivered_of m (path 2) (two again blank) (Some (grant slots 1 1 0)) ≡ answers again blank (fail 1 0 1 ∷ []) (Some GrantKind)
  late slots = refl
