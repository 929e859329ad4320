-- Every run keeps the law.
use Rattle.std.proofs.Common.{◌≡◌, ℕ, ◌<◌, ◌≤◌, Bool, true, false, not, ◌||◌, eqb, ltb, ◌⊎◌, List, [], ◌∷◌, ◌++◌, Some, sym, refl, ap, ◌∙◌, inl, inr, ⊎_elim, append-nil, arith}
use mathlib.Core.Path.{fun_ext}
use mathlib.Core.List.Memᴰ
use Rattle.std.proofs.lemmas.Bool.{cases_Bool, cases_eq, eq-eqb, ne_eqb, and_from, and_left, and_right, or_parts, not-false}
use Rattle.marks.specs.Sets.{joined}
use Rattle.marks.proofs.Below.{count_le}
use Rattle.map.specs.View.{linked, nodes, contend}
use Rattle.map.specs.declared.Map.{Map}
use Rattle.schedule.proofs.Slots.{count_none}
use Rattle.schedule.proofs.Rand.{rand_none}
use Rattle.radio.specs.Ways.{Ways, AirRule, In, puts}
use Rattle.radio.specs.declared.message.Message.{Message}
use Rattle.radio.proofs.Puts.{puts_air}
use Rattle.rig.specs.declared.node.Node.{Node}
use Rattle.rig.specs.Calm.{at, blank}
use Rattle.rig.specs.Board.{Board, new_board}
use Rattle.rig.specs.Laws.{Decides}
use Rattle.rig.specs.Steps.{After, lowest, waits, foreign, counted, counts, drawn, delivered, nudged}
use Rattle.rig.proofs.Calms.{at-blank}
use Rattle.law.specs.declared.Call.{Call}
use Rattle.law.specs.declared.Call.TheVariants.{Draw, Deliver, Nudge}
use Rattle.law.specs.declared.Answer.{Answer}
use Rattle.law.specs.Runs.{Calls, none, more, nodes_after, radio_after, decides, deciders}
use Rattle.law.specs.Law.{Unseen, Lawful}
use Rattle.law.proofs.Facts.{Nodes}
use Rattle.law.proofs.Marking.{none-marked}
use Rattle.law.proofs.Moves.{idle_quiet}
use Rattle.law.proofs.Sends.{Said}
use Rattle.law.proofs.Boards.{Same, Fine, Keeps, Settles, Good, here}
use Rattle.law.proofs.Decide.{slot_free}
use Rattle.law.proofs.Draws.{good_drawn}
use Rattle.law.proofs.Nudges.{good_nudged}
use Rattle.law.proofs.Deliveries.{is-request, waits_live, counts_kept, good_delivered, delivered_ok}
use Rattle.law.proofs.Ranks.{each_none, each_one, Ranks, ranks_same, ranks_more, slot_law}

-- a new rig

blank_nodes : (lk : ℕ → ℕ → Bool) → Nodes lk (λ _. blank)
blank_nodes lk = record {
  calm = λ a e. refl;
  small = λ a. omega arith;
  few = λ a. omega arith;
  dates = λ a j e. refl;
  locked = λ b a r l. absurd (idle_quiet.1 l.0);
  truly = λ b j h. none-marked j h;
  fully = λ b c j l e. absurd (omega arith);
  grants = λ a b e. absurd (idle_quiet.0 e);
  takes = λ a j e. absurd (idle_quiet.0 e);
}

pub new_fine : (m : Map) → Fine m new_board
new_fine m = record { long = refl; nodes = rw (fun_ext (at-blank 64)) (blank_nodes (linked m)) }

pub new_ranks : (m : Map) → Ranks m [] new_board
new_ranks m = record {
  slots = λ k l. ap (λ (v : Node). v.slot) (at-blank 64 k) ∙ sym (rand_none (contend m) (nodes m) k);
  named = λ i l. absurd (omega arith);
  all = λ k l h. absurd (let q = ap (λ (v : Node). v.slot) (at-blank 64 k) in omega arith);
  none = λ k l e. ap (λ (v : Node). v.turn) (at-blank 64 k);
  count = count_none (λ k. not (eqb (at new_board k).slot 0)) (nodes m) (λ k l. ap (λ (v : Node). not (eqb v.slot 0)) (at-blank 64 k));
}

-- the nodes that a call decides

pub stays_put : (b b' : Board) (k : ℕ) → (at b' k).slot ≡ (at b k).slot → decides b b' k ≡ false
stays_put b b' k e = ⊎_elim
    (λ t. and_right (eqb (at b k).slot 0) (not (eqb (at b' k).slot 0)) (ap not (ap (λ (v : ℕ). eqb v 0) e ∙ t)))
    (λ f. and_left (eqb (at b k).slot 0) (not (eqb (at b' k).slot 0)) f) (cases_Bool (eqb (at b k).slot 0))

module _ (m : Map) where
  ranks_on : (order : List ℕ) (b b' : Board) → Same b b' ⊎ ((k : ℕ) × Settles m b b' k) → Ranks m order b → Ranks m (order ++ deciders m b b') b'
  ranks_on order b b' (inl s) r =
      rw (each_none (decides b b') (λ k. k) (nodes m) (λ k l. stays_put b b' k (s.slot k)), append-nil order) (ranks_same m order b b' s r)
  ranks_on order b b' (inr (k, s)) r = rw one (ranks_more m order b b' k s r)
    where
      one : deciders m b b' ≡ k ∷ []
      one = each_one (decides b b') (λ k. k) (nodes m) k s.inside
          (and_from (eqb (at b k).slot 0) (not (eqb (at b' k).slot 0)) (eq-eqb (at b k).slot 0 s.before) (ap not (ne_eqb (at b' k).slot 0 (λ e. let p = s.after in omega arith))))
          (λ i d. stays_put b b' i (s.others i d).0)

  -- no two
  pub at_most_one : (b b' : Board) → Same b b' ⊎ ((k : ℕ) × Settles m b b' k) → (i j : ℕ) → Decides b b' i → Decides b b' j → i ≡ j
  at_most_one b b' (inl s) i j (u, d) _ = absurd (d (s.slot i ∙ u))
  at_most_one b b' (inr (k, s)) i j p q = is i p ∙ sym (is j q)
    where
      is : (i : ℕ) → Decides b b' i → i ≡ k
      is i (u, d) = ⊎_elim (λ e. e) (λ f. absurd (d ((s.others i f).0 ∙ u))) (cases_eq i k)

-- the invariant of a run

module _ {S : Type 0} (w : Ways S) (rule : AirRule w) (m : Map) where
  pub record Inv (order : List ℕ) (b : Board) (s : S) : Type 0 where
    pub fine : Fine m b
    pub ranks : Ranks m order b
    pub air : (x : Message) → In x (w.air s) → Said m (at b) x

  pub start : (s : S) → w.air s ≡ [] → Inv [] new_board s
  start s e = record {
    fine = new_fine m;
    ranks = new_ranks m;
    air = λ x i. absurd (Memᴰ.not-nil (rw e at i));
  }

  module _ (order : List ℕ) (b : Board) (s : S) (i : Inv order b s) where
    taken_said : (x : Message) → w.taken s ≡ Some x → Said m (at b) x
    taken_said x e = i.air x (rule.taken_air s x e)

    -- what a call makes of the nodes, and the messages that are then in the air
    pub record Went (b' : Board) (s' : S) : Type 0 where
      pub keeps : Keeps m b b'
      pub moved : Same b b' ⊎ ((k : ℕ) × Settles m b b' k)
      pub air : (x : Message) → In x (w.air s') → Said m (at b') x

    went : {A : Type 0} (a : After A) (t : S) → Good m b a → ((x : Message) → In x (w.air t) → In x (w.air s)) → Went a.board (puts w t a.sent)
    went a t g old = record {
      keeps = g.keeps;
      moved = g.moved;
      air = λ x h. ⊎_elim
          (λ o. record { fact = g.keeps.facts x (i.air x (old x o)).fact; home = (i.air x (old x o)).home }) (g.sent x)
          (puts_air w rule t a.sent x h);
    }

    pub goes : (c : Call) → Went (nodes_after w m b s c) (radio_after w m b s c)
    goes (Draw k v) = went (drawn m b k v) s (good_drawn m b i.fine k v) (λ x h. h)
    goes Deliver = went (delivered m b (w.taken s)) (w.after_take s) (good_delivered m b i.fine (w.taken s) (λ x e. (taken_said x e).fact)) (rule.take_air s)
    goes (Nudge k) = went (nudged m b k) s (good_nudged m b i.fine k) (λ x h. h)

    pub step : (c : Call) → Inv (order ++ deciders m b (nodes_after w m b s c)) (nodes_after w m b s c) (radio_after w m b s c)
    step c =
        let g = goes c in
        record { fine = g.keeps.fine; ranks = ranks_on m order b (nodes_after w m b s c) g.moved i.ranks; air = g.air }

    pub unseen : Unseen w m b s
    unseen = record {
      single = λ c. at_most_one m b (nodes_after w m b s c) (goes c).moved;
      known = λ x h. (i.air x h).home;
      delivers = delivered_ok m b (w.taken s) (λ x e. (taken_said x e).home);
      free = λ k l q. slot_free m (at b) i.fine.nodes k l (is-request (at b k).phase q);
      spare = spare;
    }
      where
        spare : (x : Message) → In x (w.air s) → x.kind ≡ 2 → waits (at b x.receiver) x.round ≡ true → lowest (joined (at b x.receiver).taken x.slots) < 64
        spare x h e q =
            let said = i.air x h in
            let live = waits_live (at b x.receiver) x.round q in
            let kept = counts_kept m b i.fine x said.fact (link said.home) e live in
            let here' = here m b i.fine x.receiver (counted (at b x.receiver) x.sender x.slots) (inside (link said.home)) in
            rw here' at
            (slot_free m (at (counts m b x)) kept.fine.nodes x.receiver (inside (link said.home)) (ap (λ (v : Node). v.phase) here' ∙ live.0))
          where
            link : foreign m x ≡ false → linked m x.sender x.receiver ≡ true
            link n = not-false (linked m x.sender x.receiver) (or_parts (not (linked m x.sender x.receiver)) _ (or_parts (eqb x.kind 0 || ltb 5 x.kind) _ n).1).0

            inside : linked m x.sender x.receiver ≡ true → x.receiver < nodes m
            inside l = m.within x.receiver x.sender (m.both x.receiver x.sender ∙ l)

  -- a turn is at most the number of nodes
  pub turn_few : (order : List ℕ) (b : Board) (s : S) → Inv order b s → (k : ℕ) → k < nodes m → (at b k).turn ≤ 64
  turn_few order b s i k l = go (cases_eq (at b k).slot 0)
    where
      go : ((at b k).slot ≡ 0) ⊎ ((at b k).slot ≡ 0 → ⊥) → (at b k).turn ≤ 64
      go (inl e) = let z = i.ranks.none k l e in omega arith
      go (inr d) =
          let (j, g, e) = i.ranks.all k l (omega arith) in
          let t = (i.ranks.named j g).2 in
          let same = ap (λ (x : ℕ). (at b x).turn) e in
          let count = i.ranks.count in
          let most = count_le (λ x. not (eqb (at b x).slot 0)) (nodes m) in
          let few = m.most in
          omega arith

  pub holds : {s₀ : S} {calls : List Call} {answers : List Answer} {order : List ℕ} {b : Board} {s : S} → w.air s₀ ≡ [] → Calls w m new_board s₀ calls answers order b s → Inv order b s
  holds {s₀} e none = start s₀ e
  holds e (more {order = order} {b = b} {s = s} r c) = step order b s (holds e r) c

-- every run over a radio with the air rule, on any map
pub every_run : {S : Type 0} (w : Ways S) → AirRule w → (m : Map) (b : Board) (s : S) → Lawful w m b s
every_run w rule m b s calls answers order r =
    let i = holds w rule m r.empty r.made in
    (slot_law m order b i.ranks, unseen w rule m order b s i)
