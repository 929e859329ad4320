-- What the drive's inner functions keep: the rig between two draws, one node settled, and the nodes settled so far.
use Rattle.std.specs.Prelude.{◌≡◌, ℕ, ◌*◌, ◌<◌, cond, ◌⊎◌, List, [], ◌∷◌, length, Result, ◌==◌, ◌≢◌}
use Rattle.marks.specs.Below.{sum_below}
use Rattle.refusal.specs.declared.Refusal.{Refusal}
use Rattle.map.specs.View.{nodes, degree}
use Rattle.map.specs.declared.Map.{Map}
use Rattle.radio.specs.declared.kind.Kind.{Kind}
use Rattle.radio.specs.Ways.{Ways}
use Rattle.rig.specs.declared.Lottery.{Lottery}
use Rattle.rig.specs.declared.node.Node.{Node}
use Rattle.rig.specs.declared.node.Phase.TheVariants.{Idle, Release}
use Rattle.rig.specs.Calm.{at}
use Rattle.rig.specs.Board.{Board}
use Rattle.law.specs.declared.Call.{Call}
use Rattle.law.specs.declared.Answer.{Answer}
use Rattle.law.specs.Runs.{Calls, Run}
use Rattle.drive.specs.Drive.{episode_calls, episode_answers, Drives}

-- a node that is not busy: it is idle and has never asked, or in release with a slot
abbrev pub Rests : Node → Type 0
Rests v = ((v.phase ≡ Idle) × (v.slot ≡ 0) × (v.round ≡ 0)) ⊎ ((v.phase ≡ Release) × (0 < v.slot))

-- between two draws: a run ends in these nodes and this state of the radio, no node is busy, and nothing waits
pub record Resting {S : Type 0} (w : Ways S) (m : Map) (b : Board) (s : S) : Type 0 where
  pub calls : List Call
  pub answers : List Answer
  pub order : List ℕ
  pub run : Run w m calls answers order b s
  pub rests : (k : ℕ) → Rests (at b k)
  pub empty : w.air s ≡ []

-- node a is settled, from nodes b and radio state s to b' and s': it is drawn with 1, and messages are delivered until nothing comes; so many came
pub record Settling {S : Type 0} (w : Ways S) (m : Map) (a : ℕ) (b b' : Board) (s s' : S) (count : ℕ) : Type 0 where
  pub won : Result Lottery Refusal
  pub kinds : List Kind
  pub long : length kinds ≡ count
  -- a decides in these calls, and no other node does
  pub made : Calls w m b s (episode_calls a kinds) (episode_answers won kinds) (a ∷ []) b' s'
  pub decided : 0 < (at b' a).slot
  pub others : (k : ℕ) → (k ≢ a) → (at b' k).slot ≡ (at b k).slot
  pub rests : (k : ℕ) → Rests (at b' k)
  pub empty : w.air s' ≡ []
  -- three messages for each neighbour
  pub thrice : count ≡ 3 * degree m a

-- the nodes of the order are settled one after the other, on a new rig, over a radio that begins with nothing in its air; so many messages came
pub record Settled {S : Type 0} (w : Ways S) (m : Map) (order : List ℕ) (b : Board) (s : S) (count : ℕ) : Type 0 where
  pub calls : List Call
  pub answers : List Answer
  pub drives : Drives order calls answers count
  pub run : Run w m calls answers order b s
  pub rests : (k : ℕ) → Rests (at b k)
  pub empty : w.air s ≡ []
  -- three messages for each neighbour of each node that has decided
  pub counted : count ≡ sum_below (λ k. cond ((at b k).slot == 0) 0 (3 * degree m k)) (nodes m)
