-- Runs: a rig is opened over a radio with nothing in its air, and then called, any number of times, in any way.
use Rattle.std.specs.Prelude.{◌≡◌, ℕ, Bool, not, ◌&&◌, List, [], ◌∷◌, ◌++◌, ◌==◌}
use Rattle.map.specs.View.{nodes}
use Rattle.map.specs.declared.Map.{Map}
use Rattle.radio.specs.Ways.{Ways, puts}
use Rattle.rig.specs.Calm.{at}
use Rattle.rig.specs.Board.{Board, new_board, each}
use Rattle.rig.specs.Steps.{drawn, delivered, nudged}
use Rattle.law.specs.declared.Call.{Call}
use Rattle.law.specs.declared.Call.TheVariants.{Draw, Deliver, Nudge}
use Rattle.law.specs.declared.Answer.{Answer}
use Rattle.law.specs.declared.Answer.TheVariants.{Drawn, Delivered, Nudged}

-- one call, on nodes b over a radio in state s, by the definitions that the rig's contracts cite

module _ {S : Type 0} (w : Ways S) (m : Map) where
  -- the nodes after it
  abbrev pub nodes_after : Board → S → Call → Board
  nodes_after b s (Draw k v) = (drawn m b k v).board
  nodes_after b s Deliver = (delivered m b (w.taken s)).board
  nodes_after b s (Nudge k) = (nudged m b k).board

  -- the radio after it: what was sent is put in, after the taking where there is one
  abbrev pub radio_after : Board → S → Call → S
  radio_after b s (Draw k v) = puts w s (drawn m b k v).sent
  radio_after b s Deliver = puts w (w.after_take s) (delivered m b (w.taken s)).sent
  radio_after b s (Nudge k) = puts w s (nudged m b k).sent

  -- its answer
  abbrev pub answer_of : Board → S → Call → Answer
  answer_of b s (Draw k v) = Drawn (drawn m b k v).answer
  answer_of b s Deliver = Delivered (delivered m b (w.taken s)).answer
  answer_of b s (Nudge k) = Nudged (nudged m b k).answer

-- node k decides between b and b': it is undecided in b, where its slot is 0, and decided in b'
abbrev pub decides : Board → Board → ℕ → Bool
decides b b' k = (at b k).slot == 0 && not ((at b' k).slot == 0)

-- the nodes of the map that decide between b and b'
abbrev pub deciders : Map → Board → Board → List ℕ
deciders m b b' = each (decides b b') (λ k. k) (nodes m)

-- calls, one after the other

-- From nodes b₀ and radio state s₀ these calls, with these answers, lead to the nodes and the radio state named last; and
-- this is the order in which nodes decide.
pub data Calls {S : Type 0} (w : Ways S) (m : Map) (b₀ : Board) (s₀ : S) : List Call → List Answer → List ℕ → Board → S → Type 0 where
  none : Calls w m b₀ s₀ [] [] [] b₀ s₀
  more : {calls : List Call} {answers : List Answer} {order : List ℕ} {b : Board} {s : S} → Calls w m b₀ s₀ calls answers order b s → (c : Call)
      → Calls w m b₀ s₀ (calls ++ (c ∷ [])) (answers ++ (answer_of w m b s c ∷ [])) (order ++ deciders m b (nodes_after w m b s c)) (nodes_after w m b s c) (radio_after w m b s c)

-- a run: calls of a new rig, over a radio that begins with nothing in its air
pub record Run {S : Type 0} (w : Ways S) (m : Map) (calls : List Call) (answers : List Answer) (order : List ℕ) (b : Board) (s : S) : Type 0 where
  pub start : S
  pub empty : w.air start ≡ []
  pub made : Calls w m new_board start calls answers order b s
