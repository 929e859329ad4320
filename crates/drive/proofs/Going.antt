-- The calls of an episode: the draw, each delivery that brings a message, and the one that brings nothing.
use Rattle.std.proofs.Common.{◌≡◌, ℕ, ◌+◌, ◌*◌, ◌<◌, List, [], ◌∷◌, ◌++◌, map, length, replicate, Some, None, Ok, Option, Result, sym, refl, ap, ◌∙◌, subst, append_assoc, append-nil, arith}
use mathlib.Core.List.Memᴰ
use Rattle.std.proofs.lemmas.List.{length_push, replicate_more, map_push}
use Rattle.refusal.specs.declared.Refusal.{Refusal}
use Rattle.map.specs.View.{nodes, degree}
use Rattle.map.specs.declared.Map.{Map}
use Rattle.radio.specs.Ways.{Ways, AirRule, In, puts}
use Rattle.radio.specs.declared.kind.Kind.{Kind}
use Rattle.radio.specs.declared.message.Message.{Message}
use Rattle.rig.specs.declared.Lottery.{Lottery}
use Rattle.rig.specs.Calm.{at}
use Rattle.rig.specs.Board.{Board}
use Rattle.rig.specs.Steps.{drawn, delivered, received}
use Rattle.law.specs.declared.Call.{Call}
use Rattle.law.specs.declared.Call.TheVariants.{Draw, Deliver}
use Rattle.law.specs.declared.Answer.{Answer}
use Rattle.law.specs.declared.Answer.TheVariants.{Drawn, Delivered}
use Rattle.law.specs.Runs.{Calls, none, more, deciders, answer_of, nodes_after}
use Rattle.law.proofs.Boards.{Fine}
use Rattle.law.proofs.Law.{holds}
use Rattle.drive.specs.Settling.{Rests, Resting, Settling}
use Rattle.drive.specs.Sure.{Sure}
use Rattle.drive.proofs.Alone.{Only, only_then, decide_then, decide_one, decide_none}
use Rattle.drive.proofs.Begins.{Begun, begun, busy_first}
use Rattle.drive.proofs.Delivers.{went, busy_on, has_decided, none_to_come, all_rest}
use Rattle.drive.proofs.Episode.{work, Busy}

none_in : (xs : List Message) → ((y : Message) → In y xs → ⊥) → xs ≡ []
none_in [] h = refl
none_in (x ∷ xs) h = absurd (h x (Memᴰ.head refl))

pub calls_as : {S : Type 0} {w : Ways S} {m : Map} {b₀ : Board} {s₀ : S} {calls calls' : List Call} {answers answers' : List Answer} {order order' : List ℕ} {b : Board} {s : S}
    → calls ≡ calls' → answers ≡ answers' → order ≡ order' → Calls w m b₀ s₀ calls answers order b s → Calls w m b₀ s₀ calls' answers' order' b s
calls_as {w = w} {m} {b₀} {s₀} {calls} {calls'} {answers} {answers'} {order} {order'} {b} {s} p q r made =
    subst (λ (c : List Call). Calls w m b₀ s₀ c answers' order' b s) p
    (subst (λ (a : List Answer). Calls w m b₀ s₀ calls a order' b s) q
    (subst (λ (o : List ℕ). Calls w m b₀ s₀ calls answers o b s) r made))

-- calls, and then more calls
pub calls_then : {S : Type 0} {w : Ways S} {m : Map} {b₀ : Board} {s₀ : S} {calls : List Call} {answers : List Answer} {order : List ℕ} {b : Board} {s : S}
    {calls' : List Call} {answers' : List Answer} {order' : List ℕ} {b' : Board} {s' : S}
    → Calls w m b₀ s₀ calls answers order b s → Calls w m b s calls' answers' order' b' s' → Calls w m b₀ s₀ (calls ++ calls') (answers ++ answers') (order ++ order') b' s'
calls_then {calls = calls} {answers} {order} made none = calls_as (sym (append-nil calls)) (sym (append-nil answers)) (sym (append-nil order)) made
calls_then {w = w} {m} {calls = calls} {answers} {order} made (more {calls = calls'} {answers = answers'} {order = order'} {b = b} {s = s} then c) =
    calls_as (append_assoc calls calls' (c ∷ [])) (append_assoc answers answers' (answer_of w m b s c ∷ [])) (append_assoc order order' (deciders m b (nodes_after w m b s c)))
    (more (calls_then made then) c)

-- the draw, from b₀ and s₀ to b and s

pub record Drew {S : Type 0} (w : Ways S) (m : Map) (a : ℕ) (b₀ : Board) (s₀ : S) (b : Board) (s : S) : Type 0 where
  pub busy : Busy w m a (at b a).round b s
  pub thrice : work m a (at b) ≡ 3 * degree m a
  pub only : Only a b₀ b
  pub won : Result Lottery Refusal
  pub made : Calls w m b₀ s₀ (Draw a 1 ∷ []) (Drawn won ∷ []) (deciders m b₀ b) b s

pub drew : {S : Type 0} (w : Ways S) → AirRule w → Sure w → (m : Map) (a : ℕ) → a < nodes m → (b₀ : Board) (s₀ : S) → Resting w m b₀ s₀ → (at b₀ a).slot ≡ 0
    → (b : Board) (s : S) → b ≡ (drawn m b₀ a 1).board → s ≡ puts w s₀ (drawn m b₀ a 1).sent → Drew w m a b₀ s₀ b s
drew {S} w rule sure m a in_a b₀ s₀ before open-a b s eb es =
    subst (λ (c : Board). Drew w m a b₀ s₀ c s) (sym eb) (subst (λ (t : S). Drew w m a b₀ s₀ (drawn m b₀ a 1).board t) (sym es) (record {
      busy = subst (λ (r : ℕ). Busy w m a r (drawn m b₀ a 1).board (puts w s₀ (drawn m b₀ a 1).sent)) (sym first.episode.round) first;
      thrice = g.thrice;
      only = g.only;
      won = (drawn m b₀ a 1).answer;
      made = more none (Draw a 1);
    }))
  where
    fine : Fine m b₀
    fine = (holds w rule m before.run.empty before.run.made).fine

    g : Begun m b₀ fine before.rests a in_a open-a (drawn m b₀ a 1)
    g = begun m b₀ fine before.rests a in_a open-a

    first : Busy w m a ((at b₀ a).round + 1) (drawn m b₀ a 1).board (puts w s₀ (drawn m b₀ a 1).sent)
    first = busy_first m b₀ fine before.rests a in_a open-a w rule sure s₀ before.empty

-- the deliveries, from b₁ and s₁ on: so many messages came

pub record Going {S : Type 0} (w : Ways S) (m : Map) (a : ℕ) (b₁ : Board) (s₁ : S) (b : Board) (s : S) (count : ℕ) : Type 0 where
  pub busy : Busy w m a (at b₁ a).round b s
  pub sum : count + work m a (at b) ≡ work m a (at b₁)
  pub only : Only a b₁ b
  pub kinds : List Kind
  pub long : length kinds ≡ count
  pub made : Calls w m b₁ s₁ (replicate (length kinds) Deliver) (map (λ kind. Delivered (Ok (Some kind))) kinds) (deciders m b₁ b) b s

pub goes_first : {S : Type 0} (w : Ways S) (m : Map) (a : ℕ) (b₁ : Board) (s₁ : S) → Busy w m a (at b₁ a).round b₁ s₁ → Going w m a b₁ s₁ b₁ s₁ 0
goes_first w m a b₁ s₁ busy = record {
  busy = busy;
  sum = omega arith;
  only = record { slots = λ i _. refl; rounds = λ i _. refl; stays = λ h. h };
  kinds = [];
  long = refl;
  made = calls_as refl refl (sym (decide_none m b₁)) none;
}

module _ {S : Type 0} (w : Ways S) (rule : AirRule w) (sure : Sure w) (m : Map) (a : ℕ) (in_a : a < nodes m) (b₁ : Board) (s₁ : S) (b : Board) (s : S) (count : ℕ) (g : Going w m a b₁ s₁ b s count) where
  -- the next call, by what the radio hands out
  next : (o : Option Message) → w.taken s ≡ o
      → Calls w m b₁ s₁ (replicate (length g.kinds) Deliver ++ (Deliver ∷ [])) (map (λ kind. Delivered (Ok (Some kind))) g.kinds ++ (Delivered (delivered m b o).answer ∷ []))
      (deciders m b₁ b ++ deciders m b (delivered m b o).board) (delivered m b o).board (puts w (w.after_take s) (delivered m b o).sent)
  next o e = subst (λ (o : Option Message). Calls w m b₁ s₁ (replicate (length g.kinds) Deliver ++ (Deliver ∷ [])) (map (λ kind. Delivered (Ok (Some kind))) g.kinds ++ (Delivered (delivered m b o).answer ∷ []))
      (deciders m b₁ b ++ deciders m b (delivered m b o).board) (delivered m b o).board (puts w (w.after_take s) (delivered m b o).sent)) e (more g.made Deliver)

  goes_on : (x : Message) → w.taken s ≡ Some x → Going w m a b₁ s₁ (received m b x).board (puts w (w.after_take s) (received m b x).sent) (count + 1)
  goes_on x e =
      let step = went w rule sure m a (at b₁ a).round b s g.busy x e in
      let (kind, answer) = step.came in
      record {
        busy = busy_on w rule sure m a (at b₁ a).round b s g.busy x e;
        sum = let h = g.sum in let l = step.less in omega arith;
        only = only_then a b₁ b (received m b x).board g.only step.only;
        kinds = g.kinds ++ (kind ∷ []);
        long = let h = g.long in let l = length_push g.kinds kind in omega arith;
        made = calls_as
            (replicate_more (length g.kinds) Deliver ∙ ap (λ (n : ℕ). replicate n Deliver) (sym (length_push g.kinds kind)))
            (ap (λ (r : Result (Option Kind) Refusal). map (λ kind. Delivered (Ok (Some kind))) g.kinds ++ (Delivered r ∷ [])) answer ∙ sym (map_push (λ kind. Delivered (Ok (Some kind))) g.kinds kind))
            (decide_then m a in_a b₁ b (received m b x).board g.only step.only) (next (Some x) e);
      }

  -- nothing came: the episode that began at b₀ and s₀ is over
  ends : (b₀ : Board) (s₀ : S) → ((k : ℕ) → Rests (at b₀ k)) → (at b₀ a).slot ≡ 0 → Drew w m a b₀ s₀ b₁ s₁ → w.taken s ≡ None → Settling w m a b₀ b s₀ (w.after_take s) count
  ends b₀ s₀ rests open-a d e =
      let empty = sure.hands s e in
      let done = has_decided w m a (at b₁ a).round b s g.busy empty in
      let only = only_then a b₀ b₁ b d.only g.only in
      record {
        won = d.won;
        kinds = g.kinds;
        long = g.long;
        made = calls_as refl refl
            (ap (λ (o : List ℕ). deciders m b₀ b₁ ++ o) (ap (λ (o : List ℕ). deciders m b₁ b ++ o) (decide_none m b) ∙ append-nil (deciders m b₁ b))
            ∙ decide_then m a in_a b₀ b₁ b d.only g.only ∙ decide_one m a in_a b₀ b only open-a done)
            (calls_then d.made (next None e));
        decided = done;
        others = only.slots;
        rests = all_rest w m a (at b₁ a).round b s g.busy empty b₀ rests only;
        empty = none_in (w.air (w.after_take s)) (λ y i. Memᴰ.not-nil (subst (λ (xs : List Message). In y xs) empty (rule.take_air s y i)));
        thrice = let h = g.sum in let t = d.thrice in let z = none_to_come w m a (at b₁ a).round b s g.busy empty in omega arith;
      }

  -- as the loop sees it: a delivery answers r, and leads to b' and s'

  module _ (m' : Map) (same : m' ≡ m) (r : Result (Option Kind) Refusal) (b' : Board) (s' : S) (er : r ≡ (delivered m' b (w.taken s)).answer) (eb : b' ≡ (delivered m' b (w.taken s)).board) (es : s' ≡ puts w (w.after_take s) (delivered m' b (w.taken s)).sent) where
    board_is : (o : Option Message) → w.taken s ≡ o → b' ≡ (delivered m b o).board
    board_is o e = eb ∙ ap (λ (x : Map). (delivered x b (w.taken s)).board) same ∙ ap (λ (o : Option Message). (delivered m b o).board) e

    state_is : (o : Option Message) → w.taken s ≡ o → s' ≡ puts w (w.after_take s) (delivered m b o).sent
    state_is o e = es ∙ ap (λ (x : Map). puts w (w.after_take s) (delivered x b (w.taken s)).sent) same ∙ ap (λ (o : Option Message). puts w (w.after_take s) (delivered m b o).sent) e

    answer_is : (o : Option Message) → w.taken s ≡ o → r ≡ (delivered m b o).answer
    answer_is o e = er ∙ ap (λ (x : Map). (delivered x b (w.taken s)).answer) same ∙ ap (λ (o : Option Message). (delivered m b o).answer) e

    pub on : (r ≡ Ok None → ⊥) → Going w m a b₁ s₁ b' s' (count + 1)
    on some = by (w.taken s) refl
      where
        by : (o : Option Message) → w.taken s ≡ o → Going w m a b₁ s₁ b' s' (count + 1)
        by None e = absurd (some (answer_is None e))
        by (Some x) e =
            subst (λ (c : Board). Going w m a b₁ s₁ c s' (count + 1)) (sym (board_is (Some x) e))
            (subst (λ (t : S). Going w m a b₁ s₁ (received m b x).board t (count + 1)) (sym (state_is (Some x) e)) (goes_on x e))

    pub off : (b₀ : Board) (s₀ : S) → ((k : ℕ) → Rests (at b₀ k)) → (at b₀ a).slot ≡ 0 → Drew w m a b₀ s₀ b₁ s₁ → r ≡ Ok None → Settling w m a b₀ b' s₀ s' count
    off b₀ s₀ rests open-a d nothing = by (w.taken s) refl
      where
        by : (o : Option Message) → w.taken s ≡ o → Settling w m a b₀ b' s₀ s' count
        by None e =
            subst (λ (c : Board). Settling w m a b₀ c s₀ s' count) (sym (board_is None e))
            (subst (λ (t : S). Settling w m a b₀ b s₀ t count) (sym (state_is None e)) (ends b₀ s₀ rests open-a d e))
        by (Some x) e = absurd (
            let (kind, answer) = (went w rule sure m a (at b₁ a).round b s g.busy x e).came in
            let q : ◌≡◌ {A = Result (Option Kind) Refusal} (Ok (Some kind)) (Ok None) = sym answer ∙ sym (answer_is (Some x) e) ∙ nothing in
            let u : ⊥ = cc in u)
