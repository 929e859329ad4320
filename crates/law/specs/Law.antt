-- The slot law: what every run keeps.
use Rattle.std.specs.Prelude.{◌≡◌, ℕ, suc, ◌+◌, ◌<◌, ◌≤◌, true, false, List, length, Ok, Err, ◌≢◌, slice_index}
use Rattle.marks.specs.Below.{max_below}
use Rattle.marks.specs.Sets.{joined}
use Rattle.refusal.specs.declared.Refusal.{Refusal}
use Rattle.map.specs.View.{nodes, contend}
use Rattle.map.specs.declared.Map.{Map}
use Rattle.schedule.specs.Rand.{rand, Fine, Named, IsRand, ahead}
use Rattle.schedule.specs.Sharing.{Checked}
use Rattle.schedule.specs.declared.checking.Verdict.TheVariants.{Accepted}
use Rattle.radio.specs.Ways.{Ways, In}
use Rattle.radio.specs.declared.message.Message.{Message}
use Rattle.rig.specs.Calm.{at, is_request}
use Rattle.rig.specs.Board.{Board}
use Rattle.rig.specs.Laws.{Decides}
use Rattle.rig.specs.Steps.{lowest, waits, foreign, delivered}
use Rattle.law.specs.declared.Call.{Call}
use Rattle.law.specs.declared.Answer.{Answer}
use Rattle.law.specs.Runs.{nodes_after, Run}

-- the largest slot of a node
abbrev pub frame : Map → Board → ℕ
frame m b = max_below (λ k. (at b k).slot) (nodes m)

-- the table begins with the slots of the nodes, by rising number
pub record Tells (m : Map) (b : Board) (table : List ℕ) : Type 0 where
  pub long : nodes m ≤ length table
  pub each : (k : ℕ) → k < nodes m → slice_index table k ≡ (at b k).slot

-- The nodes b of a rig on the map m, whose nodes decided in this order. Contenders clash: that is the node rule.
pub record SlotLaw (m : Map) (order : List ℕ) (b : Board) : Type 0 where
  -- the order names nodes of the map, none twice
  pub fine : Fine (nodes m) order
  -- those that are decided, and no other
  pub decided : (k : ℕ) → k < nodes m → Named order k → (at b k).slot ≢ 0
  pub undecided : (k : ℕ) → k < nodes m → (Named order k → ⊥) → (at b k).slot ≡ 0
  -- a decided node's turn is its place in the order, from 1, and any other's is 0
  pub turns : (i : ℕ) → i < length order → (at b (slice_index order i)).turn ≡ suc i
  pub unturned : (k : ℕ) → k < nodes m → (Named order k → ⊥) → (at b k).turn ≡ 0
  -- RAND, given the order, gives every node its slot: by its steps, and as a relation
  pub slots : (k : ℕ) → k < nodes m → (at b k).slot ≡ rand (contend m) (nodes m) order k
  pub relation : IsRand (contend m) (nodes m) order (λ k. (at b k).slot)
  -- the checker accepts the slots, whatever table they stand in, and tells the largest of them
  pub accepted : (table : List ℕ) → Tells m b table → Checked (contend m) (nodes m) table (Ok (Accepted (frame m b)))
  -- a decided node's slot is at most one more than the number of its contenders that decided before it
  pub low : (i : ℕ) → i < length order → (at b (slice_index order i)).slot ≤ 1 + ahead (contend m) order i

-- What cannot come up next, with nodes b and a radio in state s.
pub record Unseen {S : Type 0} (w : Ways S) (m : Map) (b : Board) (s : S) : Type 0 where
  -- whatever is called, no two nodes decide in it
  pub single : (c : Call) (j k : ℕ) → Decides b (nodes_after w m b s c) j → Decides b (nodes_after w m b s c) k → j ≡ k
  -- no message in the air is foreign, and no delivery is refused
  pub known : (x : Message) → In x (w.air s) → foreign m x ≡ false
  pub delivers : (e : Refusal) → (delivered m b (w.taken s)).answer ≢ Err e
  -- a node in request has a slot of the 64 free, and so it has when it counts any grant that is in the air
  pub free : (k : ℕ) → k < nodes m → is_request (at b k).phase ≡ true → lowest (at b k).taken < 64
  pub spare : (x : Message) → In x (w.air s) → x.kind ≡ 2 → waits (at b x.receiver) x.round ≡ true → lowest (joined (at b x.receiver).taken x.slots) < 64

-- the law of the nodes b and the radio state s: every run that ends in them
abbrev pub Lawful : {S : Type 0} → Ways S → Map → Board → S → Type 0
Lawful w m b s = (calls : List Call) (answers : List Answer) (order : List ℕ) → Run w m calls answers order b s → SlotLaw m order b × Unseen w m b s
