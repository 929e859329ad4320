-- Two linked nodes that both ask: each call, computed.
use Rattle.std.proofs.Common.{◌≡◌, List, [], ◌∷◌, Option, replicate, Some, None, Ok, refl}
use Rattle.marks.specs.Below.{some_below, sum_below}
use Rattle.map.specs.declared.Map.{Map}
use Rattle.radio.specs.declared.kind.Kind.{Kind}
use Rattle.radio.specs.declared.kind.Kind.TheVariants.{Request as RequestKind, Reject as RejectKind, Fail as FailKind}
use Rattle.radio.specs.declared.message.Message.{Message}
use Rattle.rig.specs.declared.node.Node.{Node}
use Rattle.rig.specs.declared.node.Phase.TheVariants.{Idle}
use Rattle.rig.specs.declared.Lottery.{Lottery}
use Rattle.rig.specs.declared.Lottery.TheVariants.{Asked}
use Rattle.rig.specs.Calm.{blank}
use Rattle.rig.specs.Board.{Board, each}
use Rattle.rig.specs.Steps.{After, asking, phased, request, reject, fail}
use Rattle.benches.specs.Paths.{path}
use Rattle.facts.proofs.Nets.{drawn_of, delivered_of}

abbrev pub two : Node → Node → Board
two v w = v ∷ w ∷ replicate 62 blank

-- a node that has asked once, and one that has given that round up
abbrev pub asked : Node
asked = asking blank

abbrev pub gave : Node
gave = phased asked Idle

abbrev pub draws : Node → Node → Message → After Lottery
draws v w x = record { board = two v w; sent = x ∷ []; answer = Ok Asked }

abbrev pub answers : Node → Node → List Message → Option Kind → After (Option Kind)
answers v w sent kind = record { board = two v w; sent = sent; answer = Ok kind }

module _ (m : Map) where
  pub draw_0 : drawn_of m (path 2) (two blank blank) 0 1 ≡ draws asked blank (request 1 0 1)
  unfolding some_below sum_below each
  draw_0 = refl

  pub draw_1 : drawn_of m (path 2) (two asked blank) 1 1 ≡ draws asked asked (request 1 1 0)
  unfolding some_below sum_below each
  draw_1 = refl

  pub request_1 : delivered_of m (path 2) (two asked asked) (Some (request 1 0 1)) ≡ answers asked asked (reject 1 1 0 ∷ []) (Some RequestKind)
  request_1 = refl

  pub request_0 : delivered_of m (path 2) (two asked asked) (Some (request 1 1 0)) ≡ answers asked asked (reject 1 0 1 ∷ []) (Some RequestKind)
  request_0 = refl

  pub reject_0 : delivered_of m (path 2) (two asked asked) (Some (reject 1 1 0)) ≡ answers gave asked (fail 1 0 1 ∷ []) (Some RejectKind)
  unfolding each
  reject_0 = refl

  pub reject_1 : delivered_of m (path 2) (two gave asked) (Some (reject 1 0 1)) ≡ answers gave gave (fail 1 1 0 ∷ []) (Some RejectKind)
  unfolding each
  reject_1 = refl

  pub fail_1 : delivered_of m (path 2) (two gave gave) (Some (fail 1 0 1)) ≡ answers gave gave [] (Some FailKind)
  fail_1 = refl

  pub fail_0 : delivered_of m (path 2) (two gave gave) (Some (fail 1 1 0)) ≡ answers gave gave [] (Some FailKind)
  fail_0 = refl

  pub nothing : delivered_of m (path 2) (two gave gave) None ≡ answers gave gave [] None
  nothing = refl
