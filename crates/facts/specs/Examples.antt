-- The worked examples: what the calls of each come to.
use Rattle.std.specs.Prelude.{◌≡◌, ℕ, ◌/◌, ◌%◌, true, false, cond, ◌&&◌, [], ◌∷◌, Some, None, Ok, Err, Result, ◌==◌}
use Rattle.marks.specs.Sets.{none}
use Rattle.refusal.specs.declared.Refusal.{Refusal}
use Rattle.refusal.specs.declared.Refusal.TheVariants.{Count}
use Rattle.map.specs.View.{net}
use Rattle.schedule.specs.declared.checking.Verdict.TheVariants.{Accepted, Clash}
use Rattle.radio.specs.Waiting.{waiting}
use Rattle.radio.specs.declared.kind.Kind.TheVariants.{Request as RequestKind, Grant as GrantKind, Reject as RejectKind, Fail as FailKind}
use Rattle.rig.specs.Calm.{at}
use Rattle.rig.specs.Steps.{fail}
use Rattle.rig.specs.declared.node.Phase.TheVariants.{Idle, Request}
use Rattle.rig.specs.declared.Lottery.{Lottery}
use Rattle.rig.specs.declared.Lottery.TheVariants.{Lost, Asked, Decided}
use Rattle.benches.specs.Paths.{path}
use Rattle.facts.specs.Ruled.{Ruled}
use Rattle.facts.specs.declared.outcomes.Lone.{Lone}
use Rattle.facts.specs.declared.outcomes.Draws.{Draws}
use Rattle.facts.specs.declared.outcomes.Plan.{Plan}
use Rattle.facts.specs.declared.outcomes.Checks.{Checks}
use Rattle.facts.specs.declared.outcomes.Links.{Links}
use Rattle.facts.specs.declared.outcomes.Late.{Late}
use Rattle.facts.specs.declared.outcomes.Both.{Both}
use Rattle.facts.specs.declared.outcomes.Openings.{Openings}
use Rattle.facts.specs.declared.outcomes.Examples.{Examples}

-- a lone node, draw with 1: it decides in that call, for slot 1 at turn 1, and nothing is put in
pub record LoneNode (r : Lone) : Type 0 where
  pub map : net r.rig.map ≡ path 1
  pub answer : r.answer ≡ Ok Decided
  pub slot : r.slot ≡ Ok 1
  pub turn : r.turn ≡ Ok 1
  pub held : (at r.rig.nodes 0).slot ≡ 1
  pub place : (at r.rig.nodes 0).turn ≡ 1
  pub silent : waiting r.queue.air ≡ []

-- what comes of a draw with v where k is 3: it asks, or loses
abbrev pub lottery : ℕ → Lottery
lottery v = cond (v % 2 == 1 && v / 2 % 3 == 0) Asked Lost

-- k = 3, one more than the contenders: of the draws with 0, 1, 3, 7 and 8 those with 1 and 7 win, and the others lose
pub record LotteryOfThree (r : Draws) : Type 0 where
  pub contenders : r.contenders ≡ 2
  pub answers : r.answers ≡ Ok Lost ∷ Ok Asked ∷ Ok Lost ∷ Ok Asked ∷ Ok Lost ∷ []

-- planner, node rule, path 0–1–2–3: the order 0, 3, 1, 2 gives the nodes 0 to 3 the slots 1, 2, 3, 1
pub record PlanOfFour (r : Plan) : Type 0 where
  pub answer : r.answer ≡ Ok tt
  pub slots : r.slots ≡ 1 ∷ 2 ∷ 3 ∷ 1 ∷ []

-- checker, node rule, path 0–1–2: the slots 1, 2, 1 answer the pair 0, 2; the slots 1, 2, 0 are accepted, and the largest is 2
pub record ChecksOfThree (r : Checks) : Type 0 where
  pub shared : r.shared ≡ Ok (Clash (0, 2))
  pub apart : r.apart ≡ Ok (Accepted 2)

-- link rule, path 0–1–2–3–4: the pairs (0, 1) and (2, 3) clash, (0, 1) and (3, 4) do not
abbrev pub LinksOfFive : Result Links Refusal → Type 0
LinksOfFive r = r ≡ Ok (record { near = true; far = false })

-- node 0 of two linked nodes is in request in round 2, and a grant of round 1 comes from node 1: it is not counted, it alters nothing, and just one message
-- goes out, a fail of round 1 from 0 to 1
pub record LateGrant (r : Late) : Type 0 where
  pub map : net r.rig.map ≡ path 2
  pub asking : (at r.before.nodes 0).phase ≡ Request
  pub second : (at r.before.nodes 0).round ≡ 2
  pub answer : r.answer ≡ Ok (Some GrantKind)
  pub phase : r.phase ≡ Ok Request
  pub round : r.round ≡ Ok 2
  pub granted : (at r.rig.nodes 0).granted ≡ none
  pub taken : (at r.rig.nodes 0).taken ≡ none
  pub stays : r.rig.nodes ≡ r.before.nodes
  pub sent : waiting r.queue.air ≡ fail 1 0 1 ∷ []

-- two linked nodes both ask: six deliveries bring two requests, two rejects and two fails, and then nothing comes; both are idle, and nobody decided
pub record BothRequest (r : Both) : Type 0 where
  pub map : net r.rig.map ≡ path 2
  pub draws : r.draws ≡ Ok Asked ∷ Ok Asked ∷ []
  pub deliveries : r.deliveries ≡
      Ok (Some RequestKind) ∷ Ok (Some RequestKind) ∷ Ok (Some RejectKind) ∷ Ok (Some RejectKind)
      ∷ Ok (Some FailKind) ∷ Ok (Some FailKind) ∷ Ok None ∷ []
  pub phases : r.phases ≡ Ok Idle ∷ Ok Idle ∷ []
  pub slots : r.slots ≡ Ok 0 ∷ Ok 0 ∷ []
  pub first : ((at r.rig.nodes 0).phase ≡ Idle) × ((at r.rig.nodes 0).slot ≡ 0)
  pub other : ((at r.rig.nodes 1).phase ≡ Idle) × ((at r.rig.nodes 1).slot ≡ 0)
  pub empty : waiting r.queue.air ≡ []

-- 64 nodes open, 65 give 2, `Count`
pub record OpeningsAtTheLimit (r : Openings) : Type 0 where
  pub most : r.most ≡ Ok tt
  pub more : r.more ≡ Err Count

-- all the examples, of the outcome of one call
pub record Shown (r : Examples) : Type 0 where
  -- a lone node, draw with 1: slot 1, turn 1, nothing put in
  pub lone : LoneNode r.lone
  -- k = 3: the numbers 1 and 7 win; 0, 3 and 8 lose
  pub draws : LotteryOfThree r.draws
  -- planner on the path 0–1–2–3, order 0, 3, 1, 2: slots 1, 2, 3, 1
  pub plan : PlanOfFour r.plan
  -- checker on the path 0–1–2: slots 1, 2, 1 answer the pair 0, 2; slots 1, 2, 0 are accepted
  pub checks : ChecksOfThree r.checks
  -- in round 2 a grant of round 1 is not counted, and is answered by a fail of round 1
  pub late : LateGrant r.late
  -- two linked nodes that both request: both reject, both end idle, after six deliveries
  pub both : BothRequest r.both
  -- path 0–1–2–3–4: the pairs (0, 1) and (2, 3) clash, (0, 1) and (3, 4) do not
  pub links : LinksOfFive r.links
  -- the generator goes from 1 to 270,369
  pub step : r.step ≡ 270369
  -- 64 nodes open, 65 give 2
  pub openings : OpeningsAtTheLimit r.openings
  -- and by the definitions that the kit's contracts cite, of every map with these nets
  pub ruled : Ruled
