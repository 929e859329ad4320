-- The worked examples by the definitions that the kit's contracts cite: of every map with the net that an example names, and so of every rig on it.
use Rattle.std.specs.Prelude.{◌≡◌, ℕ, ◌<◌, true, false, List, [], ◌∷◌, length, Some, None, Ok, Err, Result}
use Rattle.marks.specs.declared.Marks.{Marks}
use Rattle.refusal.specs.declared.Refusal.{Refusal}
use Rattle.refusal.specs.declared.Refusal.TheVariants.{Count, Spent}
use Rattle.map.specs.Calls.{opening}
use Rattle.map.specs.View.{net, nodes, Linked, contend, contender_count}
use Rattle.map.specs.declared.Map.{Map}
use Rattle.schedule.specs.Rand.{rand}
use Rattle.schedule.specs.Sharing.{Checked}
use Rattle.schedule.specs.declared.checking.Verdict.{Verdict}
use Rattle.schedule.specs.declared.checking.Verdict.TheVariants.{Accepted, Clash}
use Rattle.rules.specs.Pairs.{link_clash}
use Rattle.radio.specs.declared.kind.Kind.TheVariants.{Request as RequestKind, Grant as GrantKind, Reject as RejectKind, Fail as FailKind}
use Rattle.radio.specs.Coin.{stepped}
use Rattle.radio.specs.Queue.{queue_ways}
use Rattle.rig.specs.Calm.{at}
use Rattle.rig.specs.Board.{Board, new_board}
use Rattle.rig.specs.Steps.{grant, fail, wins, drawn, delivered}
use Rattle.rig.specs.declared.node.Phase.TheVariants.{Idle, Request}
use Rattle.rig.specs.declared.Lottery.TheVariants.{Asked, Decided}
use Rattle.law.specs.declared.Call.{Call}
use Rattle.law.specs.declared.Call.TheVariants.{Draw, Deliver}
use Rattle.law.specs.declared.Answer.{Answer}
use Rattle.law.specs.declared.Answer.TheVariants.{Drawn, Delivered}
use Rattle.law.specs.Runs.{Run}
use Rattle.benches.specs.Paths.{path}

-- the checker answers v on these slots, and nothing else
abbrev pub Answers : Map → List ℕ → Verdict → Type 0
Answers m slots v = Checked (contend m) (nodes m) slots (Ok v) × ((r : Result Verdict Refusal) → Checked (contend m) (nodes m) slots r → r ≡ Ok v)

-- the calls of two nodes that both ask, and their answers
abbrev pub both_calls : List Call
both_calls = Draw 0 1 ∷ Draw 1 1 ∷ Deliver ∷ Deliver ∷ Deliver ∷ Deliver ∷ Deliver ∷ Deliver ∷ Deliver ∷ []

abbrev pub both_answers : List Answer
both_answers =
    Drawn (Ok Asked) ∷ Drawn (Ok Asked)
    ∷ Delivered (Ok (Some RequestKind)) ∷ Delivered (Ok (Some RequestKind)) ∷ Delivered (Ok (Some RejectKind)) ∷ Delivered (Ok (Some RejectKind))
    ∷ Delivered (Ok (Some FailKind)) ∷ Delivered (Ok (Some FailKind)) ∷ Delivered (Ok None) ∷ []

pub record Ruled : Type 0 where
  -- a lone node, draw with 1, over any radio: it decides, for slot 1 at turn 1, and puts nothing in
  pub lone : (m : Map) → net m ≡ path 1
      → ((drawn m new_board 0 1).answer ≡ Ok Decided) × ((drawn m new_board 0 1).sent ≡ [])
      × ((at (drawn m new_board 0 1).board 0).slot ≡ 1) × ((at (drawn m new_board 0 1).board 0).turn ≡ 1)
  -- any node with two contenders, so that k = 3: the numbers 1 and 7 win; 0, 3 and 8 lose
  pub lottery : (m : Map) (k : ℕ) → contender_count m k ≡ 2
      → (wins m k 0 ≡ false) × (wins m k 1 ≡ true) × (wins m k 3 ≡ false) × (wins m k 7 ≡ true) × (wins m k 8 ≡ false)
  -- path 0–1–2–3, order 0, 3, 1, 2: RAND gives the nodes 0 to 3 the slots 1, 2, 3, 1
  pub plan : (m : Map) → net m ≡ path 4
      → (rand (contend m) (nodes m) (0 ∷ 3 ∷ 1 ∷ 2 ∷ []) 0 ≡ 1) × (rand (contend m) (nodes m) (0 ∷ 3 ∷ 1 ∷ 2 ∷ []) 1 ≡ 2)
      × (rand (contend m) (nodes m) (0 ∷ 3 ∷ 1 ∷ 2 ∷ []) 2 ≡ 3) × (rand (contend m) (nodes m) (0 ∷ 3 ∷ 1 ∷ 2 ∷ []) 3 ≡ 1)
  -- path 0–1–2: slots 1, 2, 1 answer the pair 0, 2; slots 1, 2, 0 are accepted, and the largest is 2
  pub checks : (m : Map) → net m ≡ path 3 → Answers m (1 ∷ 2 ∷ 1 ∷ []) (Clash (0, 2)) × Answers m (1 ∷ 2 ∷ 0 ∷ []) (Accepted 2)
  -- any node in request in round 2: a grant of round 1 from a neighbour, whatever slots it holds, alters nothing, and is answered by one fail of round 1
  pub late : (m : Map) (b : Board) (j k : ℕ) (s : Marks) → Linked m j k → (at b k).phase ≡ Request → (at b k).slot ≡ 0 → (at b k).round ≡ 2
      → delivered m b (Some (grant s 1 j k)) ≡ record { board = b; sent = fail 1 k j ∷ []; answer = Ok (Some GrantKind) }
  -- two linked nodes both ask: a run over the rack queue, in which six deliveries bring a message; at its end nobody has decided, both are idle, and nothing waits
  pub both : (m : Map) → net m ≡ path 2
      → (b : Board) × Run queue_ways m both_calls both_answers [] b [] × ((at b 0).phase ≡ Idle) × ((at b 1).phase ≡ Idle) × ((at b 0).slot ≡ 0) × ((at b 1).slot ≡ 0)
  -- path 0–1–2–3–4: of the pairs (0, 1), (2, 3) and (3, 4), the first clashes with the second and not with the third
  pub links : (m : Map) → net m ≡ path 5
      → (link_clash m ((0, 1) ∷ (2, 3) ∷ (3, 4) ∷ []) 0 1 ≡ true) × (link_clash m ((0, 1) ∷ (2, 3) ∷ (3, 4) ∷ []) 0 2 ≡ false)
  -- the generator goes from 1 to 270,369
  pub step : stepped 1 ≡ 270369
  -- 64 nodes open, 65 give 2
  pub openings : (opening 64 ≡ Ok tt) × (opening 65 ≡ Err Count)
  -- any idle node without a slot: at round 65,534 a draw that wins raises the round; at 65,535 every draw gives 10
  pub rounds : (m : Map) (b : Board) (k v : ℕ) → k < nodes m → k < length b → (at b k).slot ≡ 0 → (at b k).phase ≡ Idle
      → ((at b k).round ≡ 65534 → wins m k v ≡ true → (at (drawn m b k v).board k).round ≡ 65535) × ((at b k).round ≡ 65535 → (drawn m b k v).answer ≡ Err Spent)
