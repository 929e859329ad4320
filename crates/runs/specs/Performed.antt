-- What performing a list of calls answers, and what auditing a rig does.
use Rattle.std.specs.Prelude.{◌≡◌, ℕ, ◌<◌, ◌≤◌, ◌⊎◌, List, [], length, take, drop, Ok, Err, Result}
use Rattle.refusal.specs.Entry.{entry, Why}
use Rattle.refusal.specs.declared.Refusal.{Refusal}
use Rattle.map.specs.View.{nodes, contend}
use Rattle.map.specs.declared.Map.{Map}
use Rattle.schedule.specs.Sharing.{Checked}
use Rattle.schedule.specs.declared.checking.Verdict.{Verdict}
use Rattle.schedule.specs.declared.checking.Verdict.TheVariants.{Accepted}
use Rattle.radio.specs.Ways.{Ways}
use Rattle.rig.specs.Board.{Board, new_board}
use Rattle.law.specs.declared.Call.{Call}
use Rattle.law.specs.declared.Answer.{Answer}
use Rattle.law.specs.Runs.{Calls, Run}
use Rattle.law.specs.Law.{Tells, SlotLaw, Unseen, frame}
use Rattle.runs.specs.declared.performing.Performed.{Performed}

-- These calls were made of a new rig, from radio state s to s': the rig that they led to and the number of nodes that decided are handed back; the answers stand first in
-- one table, and the nodes that decided first in the other, and the rest of both is as before. Where the air was empty at first, this is a run, and the slot law
-- holds of its end.
pub record Made {S : Type 0} (w : Ways S) (m : Map) (calls : List Call) (s s' : S) (answers answers' : List Answer) (order order' : List ℕ) (p : Performed) : Type 0 where
  pub map : p.rig.map ≡ m
  pub made : Calls w m new_board s calls (take (length calls) answers') (take p.decided order') p.rig.nodes s'
  pub few : p.decided ≤ length calls
  pub rest : drop (length calls) answers' ≡ drop (length calls) answers
  pub rest_order : drop p.decided order' ≡ drop p.decided order
  pub run : w.air s ≡ [] → Run w m calls (take (length calls) answers') (take p.decided order') p.rig.nodes s'
  pub law : w.air s ≡ [] → SlotLaw m (take p.decided order') p.rig.nodes
  pub unseen : w.air s ≡ [] → Unseen w m p.rig.nodes s'

-- nothing was called, and all is as it was
pub record Untouched {S : Type 0} (s s' : S) (answers answers' : List Answer) (order order' : List ℕ) : Type 0 where
  pub same_radio : s' ≡ s
  pub same_answers : answers' ≡ answers
  pub same_order : order' ≡ order

-- what performing calls answers: 1, `Short`, exactly where a table is shorter than the calls
abbrev pub Performs : {S : Type 0} → Ways S → Map → List Call → S → S → List Answer → List Answer → List ℕ → List ℕ → Result Performed Refusal → Type 0
Performs w m calls s s' answers answers' order order' (Ok p) = (length calls ≤ length answers) × (length calls ≤ length order) × Made w m calls s s' answers answers' order order' p
Performs w m calls s s' answers answers' order order' (Err e) =
    Untouched s s' answers answers' order order' × Why (entry e).number 1 ((length answers < length calls) ⊎ (length order < length calls)) ⊥

-- the verdict is the checker's on the slots of the nodes; and where a run led here, they are accepted, with the largest of them
pub record Audited {S : Type 0} (w : Ways S) (m : Map) (b : Board) (s : S) (verdict : Result Verdict Refusal) : Type 0 where
  pub checked : (table : List ℕ) × Tells m b table × Checked (contend m) (nodes m) table verdict
  pub accepted : (calls : List Call) (answers : List Answer) (order : List ℕ) → Run w m calls answers order b s → verdict ≡ Ok (Accepted (frame m b))
