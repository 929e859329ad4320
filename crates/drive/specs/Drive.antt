-- The drive: each node of an order in turn is drawn with the number 1, and then messages are delivered until nothing comes.
use Rattle.std.specs.Prelude.{◌≡◌, ℕ, ◌+◌, ◌*◌, ◌<◌, ◌≤◌, List, [], ◌∷◌, ◌++◌, map, length, replicate, Some, None, Ok, Err, Result, slice_index}
use Rattle.refusal.specs.Entry.{entry, Why}
use Rattle.refusal.specs.declared.Refusal.{Refusal}
use Rattle.map.specs.View.{nodes, contend, link_count}
use Rattle.map.specs.declared.Map.{Map}
use Rattle.schedule.specs.Rand.{rand, Fine, Named}
use Rattle.schedule.specs.Order.{Disordered}
use Rattle.radio.specs.declared.kind.Kind.{Kind}
use Rattle.radio.specs.Queue.{queue_ways}
use Rattle.rig.specs.declared.Lottery.{Lottery}
use Rattle.rig.specs.declared.node.Phase.TheVariants.{Release}
use Rattle.rig.specs.Board.{Board}
use Rattle.rig.specs.Calm.{at}
use Rattle.law.specs.declared.Call.{Call}
use Rattle.law.specs.declared.Call.TheVariants.{Draw, Deliver}
use Rattle.law.specs.declared.Answer.{Answer}
use Rattle.law.specs.declared.Answer.TheVariants.{Drawn, Delivered}
use Rattle.law.specs.Runs.{Run}
use Rattle.law.specs.Law.{SlotLaw}

-- what a drive does

-- node a is drawn with 1, and then one message after another is delivered, until nothing comes
abbrev pub episode_calls : ℕ → List Kind → List Call
episode_calls a kinds = Draw a 1 ∷ (replicate (length kinds) Deliver ++ (Deliver ∷ []))

-- the draw's answer, the kinds of the messages that came, and then nothing
abbrev pub episode_answers : Result Lottery Refusal → List Kind → List Answer
episode_answers won kinds = Drawn won ∷ (map (λ kind. Delivered (Ok (Some kind))) kinds ++ (Delivered (Ok None) ∷ []))

-- the calls and answers of a drive in this order, in which so many deliveries brought a message
pub data Drives : List ℕ → List Call → List Answer → ℕ → Type 0 where
  none : Drives [] [] [] 0
  more : {order : List ℕ} {calls : List Call} {answers : List Answer} {count : ℕ} → Drives order calls answers count
      → (a : ℕ) (won : Result Lottery Refusal) (kinds : List Kind)
      → Drives (order ++ (a ∷ [])) (calls ++ episode_calls a kinds) (answers ++ episode_answers won kinds) (count + length kinds)

-- what a drive comes to

-- a drive of the map m in this order, with the slot table before and after it, in which so many deliveries brought a message
pub record Driven (m : Map) (order before after : List ℕ) (count : ℕ) : Type 0 where
  pub calls : List Call
  pub answers : List Answer
  pub board : Board
  -- these are the drive's calls and answers
  pub drives : Drives order calls answers count
  -- on a new rig over a rack queue they make a run, in which the nodes decide in just this order; in the end nothing waits in the queue
  pub run : Run queue_ways m calls answers order board []
  -- and every node is in release
  pub release : (k : ℕ) → k < nodes m → (at board k).phase ≡ Release
  -- the table begins with that rig's slots, by rising number, which are RAND's for the order; the rest stays
  pub slots : (k : ℕ) → k < nodes m → slice_index after k ≡ (at board k).slot
  pub rands : (k : ℕ) → k < nodes m → slice_index after k ≡ rand (contend m) (nodes m) order k
  pub rest : (k : ℕ) → nodes m ≤ k → slice_index after k ≡ slice_index before k
  -- the run keeps the slot law
  pub law : SlotLaw m order board
  -- six deliveries for each link
  pub six : count ≡ 6 * link_count m

-- what a drive answers

-- the order names every node below n, and no node twice
pub record Whole (n : ℕ) (order : List ℕ) : Type 0 where
  pub fine : Fine n order
  pub all : (k : ℕ) → k < n → Named order k

-- a node below n is not named
abbrev pub LeavesOut : ℕ → List ℕ → Type 0
LeavesOut n order = (k : ℕ) × (k < n) × (Named order k → ⊥)

-- why a drive is refused: 1 for a table shorter than the nodes; then 3 or 5 by the order's first wrong entry; then 6 for a node left out
abbrev pub DriveRefused : ℕ → List ℕ → List ℕ → ℕ → Type 0
DriveRefused n order before number =
    Why number 1 (length before < n)
    ((n ≤ length before) × Why number 6 (Fine n order × LeavesOut n order) (Disordered n order number))

-- the count of deliveries; or a refusal, and the table as before
abbrev pub Drove : Map → List ℕ → List ℕ → List ℕ → Result ℕ Refusal → Type 0
Drove m order before after (Ok count) = (nodes m ≤ length before) × Whole (nodes m) order × Driven m order before after count
Drove m order before after (Err e) = (after ≡ before) × DriveRefused (nodes m) order before (entry e).number
