-- One episode of a drive: the node a asks its neighbours in round r, and nothing else is going on.
use Rattle.std.proofs.Common.{◌≡◌, ℕ, suc, ◌<◌, true, false, cond, eqb, List}
use Rattle.marks.specs.Below.{sum_below}
use Rattle.marks.specs.View.{marked}
use Rattle.marks.specs.declared.Marks.{Marks}
use Rattle.map.specs.View.{linked, nodes}
use Rattle.map.specs.declared.Map.{Map}
use Rattle.radio.specs.Ways.{Ways, In}
use Rattle.radio.specs.declared.message.Message.{Message}
use Rattle.rig.specs.declared.node.Node.{Node}
use Rattle.rig.specs.declared.node.Phase.TheVariants.{Request}
use Rattle.rig.specs.Calm.{at, is_request, is_grant}
use Rattle.rig.specs.Board.{Board}
use Rattle.rig.specs.Steps.{request, grant, release, freed}
use Rattle.law.proofs.Facts.{Fact}
use Rattle.law.proofs.Boards.{Fine}
use Rattle.drive.specs.Sure.{tally}

-- the neighbour of a that a message is about: the sender of a grant, else the receiver
abbrev pub about : Message → ℕ
about x = cond (eqb x.kind 2) x.sender x.receiver

-- how many messages are about k
abbrev pub hits : ℕ → List Message → ℕ
hits k xs = tally (λ x. eqb (about x) k) xs

-- With v for the node a and u for its neighbour k. While a asks, k is asked, then has granted, and then is marked by a; once a has
-- decided, k is told, and then free.

-- how many messages about k wait
abbrev pub wait : Node → ℕ → Node → ℕ
wait v k u = cond (is_request v.phase) (cond (marked v.granted k) 0 1) (cond (is_grant u.phase) 1 0)

-- how many deliveries about k are still to come
abbrev pub cost : Node → ℕ → Node → ℕ
cost v k u = cond (is_request v.phase) (cond (marked v.granted k) 1 (cond (is_grant u.phase) 2 3)) (cond (is_grant u.phase) 1 0)

-- how many deliveries are still to come
abbrev pub work : Map → ℕ → (ℕ → Node) → ℕ
work m a nd = sum_below (λ k. cond (linked m a k) (cost (nd a) k (nd k)) 0) (nodes m)

module _ (m : Map) (a r : ℕ) where
  -- what a message can be: a request to a neighbour that has not granted, a grant that is not marked, or a release to a neighbour in grant
  pub data Word (nd : ℕ → Node) (x : Message) : Type 0 where
    asked : (k : ℕ) → linked m a k ≡ true → (nd a).phase ≡ Request → is_grant (nd k).phase ≡ false → marked (nd a).granted k ≡ false → x ≡ request r a k → Word nd x
    given : (k : ℕ) (s : Marks) → linked m a k ≡ true → (nd a).phase ≡ Request → is_grant (nd k).phase ≡ true → marked (nd a).granted k ≡ false → x ≡ grant s r k a → Word nd x
    told : (k t : ℕ) → t < 64 → linked m a k ≡ true → is_request (nd a).phase ≡ false → is_grant (nd k).phase ≡ true → x ≡ release (suc t) r a k → Word nd x

  pub record Episode (nd : ℕ → Node) (xs : List Message) : Type 0 where
    pub round : (nd a).round ≡ r
    -- a is not in grant, and no other node is in request
    pub self : is_grant (nd a).phase ≡ false
    pub others : (k : ℕ) → (k ≡ a → ⊥) → is_request (nd k).phase ≡ false
    -- only neighbours of a are in grant, and for just a and r
    pub locks : (k : ℕ) → is_grant (nd k).phase ≡ true → (linked m a k ≡ true) × ((nd k).holder ≡ a) × ((nd k).term ≡ r)
    -- any other node is as if it had been freed
    pub proper : (k : ℕ) → is_request (nd k).phase ≡ false → is_grant (nd k).phase ≡ false → (nd k).phase ≡ (freed (nd k)).phase
    pub words : (x : Message) → In x xs → Word nd x
    pub waits : (k : ℕ) → linked m a k ≡ true → hits k xs ≡ wait (nd a) k (nd k)
    -- once a no longer asks it has decided
    pub done : is_request (nd a).phase ≡ false → 0 < (nd a).slot
    -- while a asks, some neighbour is not marked, and those marked are in grant
    pub short : (nd a).phase ≡ Request → (k : ℕ) × (linked m a k ≡ true) × (marked (nd a).granted k ≡ false)
    pub marks : (nd a).phase ≡ Request → (k : ℕ) → linked m a k ≡ true → marked (nd a).granted k ≡ true → is_grant (nd k).phase ≡ true

-- an episode on a rig's nodes b and a radio in state s, with the invariant of runs
pub record Busy {S : Type 0} (w : Ways S) (m : Map) (a r : ℕ) (b : Board) (s : S) : Type 0 where
  pub fine : Fine m b
  pub facts : (x : Message) → In x (w.air s) → Fact (linked m) (at b) x
  pub episode : Episode m a r (at b) (w.air s)
