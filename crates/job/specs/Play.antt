-- What the events of a job make of a rig and its radio, and what is counted of them.
use Rattle.std.specs.Prelude.{◌≡◌, ℕ, zero, suc, ◌+◌, ◌<◌, ◌≤◌, Bool, true, false, cond, ◌⊎◌, List, [], ◌∷◌, ◌++◌, map, length, replicate, Some, None, Ok, Err, Option, Result, slice_index_or}
use Rattle.refusal.specs.declared.Refusal.{Refusal}
use Rattle.map.specs.declared.Map.{Map}
use Rattle.radio.specs.declared.kind.Kind.{Kind}
use Rattle.radio.specs.Ways.{Ways}
use Rattle.rig.specs.declared.Lottery.{Lottery}
use Rattle.rig.specs.Board.{Board, new_board}
use Rattle.law.specs.declared.Call.{Call}
use Rattle.law.specs.declared.Call.TheVariants.{Draw, Deliver, Nudge}
use Rattle.law.specs.declared.Answer.{Answer}
use Rattle.law.specs.declared.Answer.TheVariants.{Drawn, Delivered, Nudged}
use Rattle.law.specs.Runs.{nodes_after, radio_after, answer_of, Run}
use Rattle.law.specs.Law.{SlotLaw}
use Rattle.script.specs.declared.Event.{Event}
use Rattle.script.specs.declared.Event.TheVariants.{Draw as DrawEvent, Deliver as DeliverEvent, Nudge as NudgeEvent}

-- what is counted of an answer

-- 1 for a delivery that brought a message
abbrev pub brought : Answer → ℕ
brought (Drawn _) = 0
brought (Delivered (Ok None)) = 0
brought (Delivered (Ok (Some _))) = 1
brought (Delivered (Err _)) = 0
brought (Nudged _) = 0

-- 1 for a refusal
abbrev pub refusals : {A : Type 0} → Result A Refusal → ℕ
refusals (Ok _) = 0
refusals (Err _) = 1

abbrev pub failed : Answer → ℕ
failed (Drawn r) = refusals r
failed (Delivered r) = refusals r
failed (Nudged r) = refusals r

-- a delivery that brought nothing
abbrev pub nothing : Answer → Bool
nothing (Drawn _) = false
nothing (Delivered (Ok None)) = true
nothing (Delivered (Ok (Some _))) = false
nothing (Delivered (Err _)) = false
nothing (Nudged _) = false

-- the events as steps

-- the nodes of the rig, the radio, the deliveries that brought a message, and the refused calls: each of these is an event of its own, since no delivery of a run is refused
pub record Stand (S : Type 0) : Type 0 where
  pub nodes : Board
  pub radio : S
  pub came : ℕ
  pub refused : ℕ

-- a new rig over a radio in state s, and nothing counted
abbrev pub fresh : {S : Type 0} → S → Stand S
fresh s = record { nodes = new_board; radio = s; came = 0; refused = 0 }

module _ {S : Type 0} (w : Ways S) (m : Map) where
  abbrev pub answered : Stand S → Call → Answer
  answered t c = answer_of w m t.nodes t.radio c

  -- one call, and its answer counted
  abbrev pub called : Stand S → Call → Stand S
  called t c = record {
    nodes = nodes_after w m t.nodes t.radio c;
    radio = radio_after w m t.nodes t.radio c;
    came = t.came + brought (answered t c);
    refused = t.refused + failed (answered t c);
  }

  -- up to n deliveries, ending when nothing comes
  unfoldable pub up_to : ℕ → Stand S → Stand S
  up_to zero t = t
  up_to (suc n) t = cond (nothing (answered t Deliver)) (called t Deliver) (up_to n (called t Deliver))

  abbrev pub played : Event → Stand S → Stand S
  played (DrawEvent k v) t = called t (Draw k v)
  played (DeliverEvent n) t = up_to n t
  played (NudgeEvent k) t = called t (Nudge k)

  -- one event after the other
  abbrev pub plays : List Event → Stand S → Stand S
  plays [] t = t
  plays (e ∷ es) t = plays es (played e t)

-- the events as a run

-- the answers of one M with the number n: so many deliveries, of which all but the last brought something, and the last brought nothing unless there are n
pub record Delivers (n : ℕ) (results : List (Result (Option Kind) Refusal)) : Type 0 where
  pub most : length results ≤ n
  pub before : (i : ℕ) → suc i < length results → nothing (Delivered (slice_index_or results i (Ok None))) ≡ false
  pub last : (length results ≡ n) ⊎ ((i : ℕ) × (length results ≡ suc i) × (nothing (Delivered (slice_index_or results i (Ok None))) ≡ true))

-- the calls that these events make, and their answers
pub data Plays : List Event → List Call → List Answer → Type 0 where
  none : Plays [] [] []
  draws : {events : List Event} {calls : List Call} {answers : List Answer} → Plays events calls answers → (k v : ℕ) (r : Result Lottery Refusal)
      → Plays (events ++ (DrawEvent k v ∷ [])) (calls ++ (Draw k v ∷ [])) (answers ++ (Drawn r ∷ []))
  delivers : {events : List Event} {calls : List Call} {answers : List Answer} → Plays events calls answers → (n : ℕ) (results : List (Result (Option Kind) Refusal)) → Delivers n results
      → Plays (events ++ (DeliverEvent n ∷ [])) (calls ++ replicate (length results) Deliver) (answers ++ map Delivered results)
  nudges : {events : List Event} {calls : List Call} {answers : List Answer} → Plays events calls answers → (k : ℕ) (r : Result ℕ Refusal)
      → Plays (events ++ (NudgeEvent k ∷ [])) (calls ++ (Nudge k ∷ [])) (answers ++ (Nudged r ∷ []))

-- how much is counted of all answers
abbrev pub total : (Answer → ℕ) → List Answer → ℕ
total count [] = 0
total count (a ∷ answers) = count a + total count answers

-- the events, played from a new rig on the map m, make a run that ends in t; what t counts is what the answers say; and the slot law holds
pub record PlaysOut {S : Type 0} (w : Ways S) (m : Map) (events : List Event) (t : Stand S) : Type 0 where
  pub calls : List Call
  pub answers : List Answer
  pub order : List ℕ
  pub plays : Plays events calls answers
  pub run : Run w m calls answers order t.nodes t.radio
  pub came : t.came ≡ total brought answers
  pub refused : t.refused ≡ total failed answers
  pub law : SlotLaw m order t.nodes
