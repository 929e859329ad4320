-- The worked examples by the definitions of the kit: a lottery, a late grant, the last rounds; and all of them together.
use Rattle.std.proofs.Common.{◌≡◌, ℕ, suc, ◌+◌, ◌/◌, ◌%◌, ◌<◌, Bool, true, false, cond, not, ◌&&◌, ◌||◌, eqb, ltb, [], ◌∷◌, length, Option, Some, Ok, Err, refl, ap, ◌∙◌, ap₂, length-set, get_or-set_same}
use Rattle.std.proofs.lemmas.Bool.{lt-ltb}
use Rattle.marks.specs.declared.Marks.{Marks}
use Rattle.marks.specs.Below.{some_below}
use Rattle.refusal.specs.declared.Refusal.TheVariants.{Node as NoNode, Settled, Busy, Spent, Foreign}
use Rattle.map.specs.View.{nodes, linked, Linked, contender_count}
use Rattle.map.specs.declared.Map.{Map}
use Rattle.radio.specs.declared.kind.Kind.{Kind}
use Rattle.radio.specs.declared.kind.Kind.TheVariants.{Grant as GrantKind}
use Rattle.radio.specs.Coin.{stepped}
use Rattle.rig.specs.Calm.{at, blank, is_request, is_grant}
use Rattle.rig.specs.Board.{Board, put, decided_count}
use Rattle.rig.specs.declared.node.Node.{Node}
use Rattle.rig.specs.declared.node.Phase.{Phase}
use Rattle.rig.specs.declared.node.Phase.TheVariants.{Idle, Request}
use Rattle.rig.specs.declared.Lottery.{Lottery}
use Rattle.rig.specs.declared.Lottery.TheVariants.{Lost, Asked, Decided}
use Rattle.rig.specs.Steps.{After, refused, grant, fail, release, wins, won, drawn, delivered, lowest, asking, settled, decided, phased, slot_for, gave_up, to_all, request, on_grant, sends, counts, complete, settled_sent}
use Rattle.facts.specs.Ruled.{Ruled}
use Rattle.facts.proofs.Drawing.{lone_is}
use Rattle.facts.proofs.Planning.{rand_is}
use Rattle.facts.proofs.Checking.{shared_is, shared_stands, apart_is, apart_stands}
use Rattle.facts.proofs.Linking.{near_is, far_is}
use Rattle.facts.proofs.Meeting.{two, gave}
use Rattle.facts.proofs.Running.{meeting}

pub lottery_is : (m : Map) (k : ℕ) → contender_count m k ≡ 2
    → (wins m k 0 ≡ false) × (wins m k 1 ≡ true) × (wins m k 3 ≡ false) × (wins m k 7 ≡ true) × (wins m k 8 ≡ false)
lottery_is m k e = (of 0, of 1, of 3, of 7, of 8)
  where
    of : (v : ℕ) → wins m k v ≡ (eqb (v % 2) 1 && eqb (v / 2 % 3) 0)
    of v = ap (λ (n : ℕ). eqb (v % 2) 1 && eqb (v / 2 % (n + 1)) 0) e

pub late_is : (m : Map) (b : Board) (j k : ℕ) (s : Marks) → Linked m j k → (at b k).phase ≡ Request → (at b k).slot ≡ 0 → (at b k).round ≡ 2
    → delivered m b (Some (grant s 1 j k)) ≡ record { board = b; sent = fail 1 k j ∷ []; answer = Ok (Some GrantKind) }
late_is m b j k s l p z r =
    ap (λ (x : Bool). cond (not x || false) (refused b Foreign) (on_grant m b (grant s 1 j k))) l
    ∙ ap₂ (λ (x : Phase) (y : ℕ). cond (is_request x && eqb 1 y) yes no) p r
    ∙ ap (λ (x : ℕ). cond (not (eqb x 0) && eqb (at b k).dated 1) (sends m b (release (at b k).slot 1 k j ∷ []) GrantKind) (sends m b (fail 1 k j ∷ []) GrantKind)) z
  where
    yes : After (Option Kind)
    yes = cond (complete m (counts m b (grant s 1 j k)) k) (sends m (settled m (counts m b (grant s 1 j k)) k) (settled_sent m (counts m b (grant s 1 j k)) k) GrantKind) (sends m (counts m b (grant s 1 j k)) [] GrantKind)

    no : After (Option Kind)
    no = cond (not (eqb (at b k).slot 0) && eqb (at b k).dated 1) (sends m b (release (at b k).slot 1 k j ∷ []) GrantKind) (sends m b (fail 1 k j ∷ []) GrantKind)

-- the answer and the nodes of a draw by an idle node without a slot
module _ (m : Map) (b : Board) (k v : ℕ) (inside : k < nodes m) (free : (at b k).slot ≡ 0) (idle : (at b k).phase ≡ Idle) where
  lost : After Lottery
  lost = record { board = b; sent = []; answer = Ok Lost }

  -- past the first three refusals
  idle_draw : drawn m b k v ≡ cond (eqb (at b k).round 65535) (refused b Spent) (cond (wins m k v) (won m b k) lost)
  unfolding lost
  idle_draw =
      ap (λ (x : Bool). cond x (cond (eqb (at b k).slot 0) (cond (is_request (at b k).phase || is_grant (at b k).phase) (refused b Busy) last) (refused b Settled)) (refused b NoNode)) (lt-ltb k (nodes m) inside)
      ∙ ap₂ (λ (x : ℕ) (y : Phase). cond (eqb x 0) (cond (is_request y || is_grant y) (refused b Busy) last) (refused b Settled)) free idle
    where
      last : After Lottery
      last = cond (eqb (at b k).round 65535) (refused b Spent) (cond (wins m k v) (won m b k) lost)

  spent_is : (at b k).round ≡ 65535 → (drawn m b k v).answer ≡ Err Spent
  spent_is r = ap (λ (x : After Lottery). x.answer) (idle_draw ∙ ap (λ (x : ℕ). cond (eqb x 65535) (refused b Spent) (cond (wins m k v) (won m b k) lost)) r)

  -- the nodes with node k asking
  abbrev asks : Board
  asks = put b k (asking (at b k))

  module _ (long : k < length b) where
    asks_at : at asks k ≡ asking (at b k)
    asks_at = get_or-set_same b k (asking (at b k)) blank long

    -- node k, altered after that in a way that keeps its round
    kept : (w : Node) → w.round ≡ (at asks k).round → (at (put asks k w) k).round ≡ (at b k).round + 1
    kept w e =
        let l : k < length asks = simp length-set long in
        ap (λ (x : Node). x.round) (get_or-set_same asks k w blank l) ∙ e ∙ ap (λ (x : Node). x.round) asks_at

    settled-round : (at (settled m asks k) k).round ≡ (at b k).round + 1
    settled-round =
        elim (ltb (lowest (at asks k).taken) 64)
        as (λ x. (at (cond x (put asks k (decided (at asks k) (slot_for m asks k) (suc (decided_count (nodes m) asks)))) (gave_up m asks k)) k).round ≡ (at b k).round + 1) [
          | true ↦ kept (decided (at asks k) (slot_for m asks k) (suc (decided_count (nodes m) asks))) refl
          | false ↦ kept (phased (at asks k) Idle) refl
        ]

    raised : (at (won m b k).board k).round ≡ (at b k).round + 1
    raised =
        elim (some_below (linked m k) (nodes m))
        as (λ x. (at (cond {A = After Lottery} x (record { board = asks; sent = to_all m k (request ((at b k).round + 1) k); answer = Ok Asked }) (record { board = settled m asks k; sent = settled_sent m asks k; answer = Ok Decided })).board k).round ≡ (at b k).round + 1) [
          | true ↦ ap (λ (x : Node). x.round) asks_at
          | false ↦ settled-round
        ]

  pub rounds_are : k < length b
      → ((at b k).round ≡ 65534 → wins m k v ≡ true → (at (drawn m b k v).board k).round ≡ 65535) × ((at b k).round ≡ 65535 → (drawn m b k v).answer ≡ Err Spent)
  rounds_are l = (
    (λ r w.
        ap (λ (x : After Lottery). (at x.board k).round)
        (idle_draw ∙ ap₂ (λ (x : ℕ) (y : Bool). cond (eqb x 65535) (refused b Spent) (cond y (won m b k) lost)) r w)
        ∙ raised l ∙ ap (λ (x : ℕ). x + 1) r),
    spent_is,
  )

step_is : stepped 1 ≡ 270369
unfolding stepped
step_is = refl

pub ruled : Ruled
ruled = record {
  lone = λ m e. let is = lone_is m e in (
    ap (λ (x : After Lottery). x.answer) is,
    ap (λ (x : After Lottery). x.sent) is,
    ap (λ (x : After Lottery). (at x.board 0).slot) is,
    ap (λ (x : After Lottery). (at x.board 0).turn) is,
  );
  lottery = lottery_is;
  plan = rand_is;
  checks = λ m e. ((shared_stands m e, λ r. shared_is m r e), (apart_stands m e, λ r. apart_is m r e));
  late = late_is;
  both = λ m e. (two gave gave, meeting m e, refl, refl, refl, refl);
  links = λ m e. (near_is m e, far_is m e);
  step = step_is;
  openings = (refl, refl);
  rounds = λ m b k v inside long free idle. rounds_are m b k v inside free idle long;
}
