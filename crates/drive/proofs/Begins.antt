-- An episode begins: on a rig in which no node is busy, a draw with the number 1 wins.
use Rattle.std.proofs.Common.{◌≡◌, ℕ, zero, suc, ◌+◌, ◌*◌, ◌%◌, ◌<◌, ◌≤◌, Bool, true, false, cond, ◌||◌, eqb, ltb, List, [], length, Ok, sym, refl, ap, ◌∙◌, subst, ⊎_elim, arith}
use mathlib.Core.List.Memᴰ
use native.Mathlib.Nat.{zero-mod}
use Rattle.std.proofs.lemmas.List.{length-set}
use Rattle.std.proofs.lemmas.Bool.{both_ways, cases_eq, or_from, eq-eqb, ne_eqb, lt-ltb, cond_both, cond-true, cond-false}
use Rattle.marks.specs.Below.{some_below, sum_below, count_below}
use Rattle.marks.specs.Sets.{none}
use Rattle.marks.specs.View.{marked}
use Rattle.marks.proofs.Below.{sum_like}
use Rattle.marks.proofs.Sets.{marked-none}
use Rattle.map.specs.View.{linked, nodes, degree, contender_count}
use Rattle.map.specs.declared.Map.{Map}
use Rattle.schedule.proofs.Slots.{some_find, some_at, first_is}
use Rattle.radio.specs.Ways.{Ways, AirRule, In, puts}
use Rattle.radio.specs.declared.message.Message.{Message}
use Rattle.radio.proofs.Puts.{puts_air}
use Rattle.rig.specs.declared.Lottery.{Lottery}
use Rattle.rig.specs.declared.Lottery.TheVariants.{Asked, Decided}
use Rattle.rig.specs.declared.node.Node.{Node}
use Rattle.rig.specs.declared.node.Phase.TheVariants.{Request}
use Rattle.rig.specs.Calm.{at, is_request, is_grant}
use Rattle.rig.specs.Board.{Board, put, decided_count}
use Rattle.rig.specs.Steps.{After, request, release, asking, decided, freed, lowest, slot_for, settled, settled_sent, gave_up, fail_all, to_all, wins, won, drawn}
use Rattle.rig.proofs.Calms.{at-put, at_other}
use Rattle.rig.proofs.Rows.{each_most}
use Rattle.law.proofs.Boards.{Fine}
use Rattle.law.proofs.Draws.{good_drawn}
use Rattle.law.proofs.Sends.{each_in}
use Rattle.drive.specs.Settling.{Rests}
use Rattle.drive.specs.Sure.{Sure}
use Rattle.drive.proofs.Airs.{Into, goes_into}
use Rattle.drive.proofs.Alone.{Only}
use Rattle.drive.proofs.Episode.{about, cost, work, asked, Episode, Busy}
use Rattle.drive.proofs.Hits.{hits_each, wait_is, cost_is}
use Rattle.drive.proofs.Moves.{freed_release, apart, inside}

lowest-none : lowest none ≡ 0
unfolding lowest
lowest-none = sym (first_is (marked none) 0 0 64 (λ t p q. absurd (let z : ⊥ = omega arith in z)) (marked-none 0) (omega arith) (omega arith))

three_each : (p : ℕ → Bool) (n : ℕ) → sum_below (λ i. cond (p i) 3 0) n ≡ 3 * count_below p n
unfolding sum_below
three_each p zero = omega arith
three_each p (suc n) = let e = three_each p n in let c = one (p n) in omega arith
  where
    one : (v : Bool) → ◌≡◌ {A = ℕ} (cond v 3 0) (3 * cond v 1 0)
    one true = omega arith
    one false = omega arith

-- three deliveries are to come for each neighbour
work_three : (m : Map) (a : ℕ) (nd : ℕ → Node) → ((k : ℕ) → linked m a k ≡ true → cost (nd a) k (nd k) ≡ 3) → work m a nd ≡ 3 * degree m a
work_three m a nd h =
    sum_like (λ k. cond (linked m a k) (cost (nd a) k (nd k)) 0) (λ k. cond (linked m a k) 3 0) (nodes m) (λ k _. at_each k (linked m a k) refl) ∙ three_each (linked m a) (nodes m)
  where
    at_each : (k : ℕ) (v : Bool) → linked m a k ≡ v → cond v (cost (nd a) k (nd k)) 0 ≡ cond v 3 0
    at_each k true l = h k l
    at_each k false l = refl

module _ (m : Map) (b : Board) (fine : Fine m b) (rests : (k : ℕ) → Rests (at b k)) (a : ℕ) (in_a : a < nodes m) (open-a : (at b a).slot ≡ 0) where
  calm : (k : ℕ) → (is_request (at b k).phase ≡ false) × (is_grant (at b k).phase ≡ false)
  calm k = ⊎_elim (λ (p, _, _). (ap is_request p, ap is_grant p)) (λ (p, _). (ap is_request p, ap is_grant p)) (rests k)

  proper : (k : ℕ) → (at b k).phase ≡ (freed (at b k)).phase
  proper k = ⊎_elim (λ (p, z, _). p ∙ sym (cond-true (eqb (at b k).slot 0) _ _ (eq-eqb (at b k).slot 0 z))) (λ (p, l). freed_release (at b k) p l) (rests k)

  fresh : (at b a).round ≡ 0
  fresh = ⊎_elim (λ (_, _, q). q) (λ (_, l). absurd (let z : ⊥ = omega arith in z)) (rests a)

  long : a < length b
  long = let s = m.most in let l = fine.long in omega arith

  draw_wins : drawn m b a 1 ≡ won m b a
  draw_wins =
      cond-true (ltb a (nodes m)) _ _ (lt-ltb a (nodes m) in_a)
      ∙ cond-true (eqb (at b a).slot 0) _ _ (eq-eqb (at b a).slot 0 open-a)
      ∙ cond-false (is_request (at b a).phase || is_grant (at b a).phase) _ _ (or_from _ _ (calm a).0 (calm a).1)
      ∙ cond-false (eqb (at b a).round 65535) _ _ (ne_eqb (at b a).round 65535 (λ e. let f = fresh in omega arith))
      ∙ cond-true (wins m a 1) _ _ (eq-eqb (0 % (contender_count m a + 1)) 0 (zero-mod (contender_count m a + 1)))

  -- the round of the episode
  abbrev round : ℕ
  round = (at b a).round + 1

  -- what a draw makes of a rig in which no node is busy
  pub record Begun (o : After Lottery) : Type 0 where
    pub episode : (zs : List Message) → Into [] o.sent zs → Episode m a round (at o.board) zs
    pub thrice : work m a (at o.board) ≡ 3 * degree m a
    pub only : Only a b o.board
    pub few : length o.sent ≤ 64

  -- the nodes once a asks
  abbrev opened : Board
  opened = put b a (asking (at b a))

  opened_a : at opened a ≡ asking (at b a)
  opened_a = at-put b a (asking (at b a)) long

  opened_i : (i : ℕ) → (i ≡ a → ⊥) → at opened i ≡ at b i
  opened_i i d = at_other b a i (asking (at b a)) d

  -- a has neighbours

  module _ (some : some_below (linked m a) (nodes m) ≡ true) where
    abbrev asking_all : List Message
    asking_all = to_all m a (request round a)

    asks_q : (at opened a).phase ≡ Request
    asks_q = ap (λ (v : Node). v.phase) opened_a

    asks_n : (i : ℕ) → marked (at opened a).granted i ≡ false
    asks_n i = ap (λ (v : Node). marked v.granted i) opened_a ∙ marked-none i

    asks_g : (i : ℕ) → (i ≡ a → ⊥) → is_grant (at opened i).phase ≡ false
    asks_g i d = ap (λ (v : Node). is_grant v.phase) (opened_i i d) ∙ (calm i).1

    asks_self : is_grant (at opened a).phase ≡ false
    asks_self = ap (λ (v : Node). is_grant v.phase) opened_a

    asks_episode : (zs : List Message) → Into [] asking_all zs → Episode m a round (at opened) zs
    asks_episode zs into = record {
      round = ap (λ (v : Node). v.round) opened_a;
      self = asks_self;
      others = λ i d. ap (λ (v : Node). is_request v.phase) (opened_i i d) ∙ (calm i).0;
      locks = λ i h. absurd (⊎_elim (λ e. both_ways (is_grant (at opened a).phase) asks_self (subst (λ (j : ℕ). is_grant (at opened j).phase ≡ true) e h)) (λ d. both_ways (is_grant (at opened i).phase) (asks_g i d) h) (cases_eq i a));
      proper = λ i q g. ⊎_elim
          (λ e. absurd (both_ways (is_request (at opened a).phase) (subst (λ (j : ℕ). is_request (at opened j).phase ≡ false) e q) (ap is_request asks_q)))
          (λ d. subst (λ (v : Node). v.phase ≡ (freed v).phase) (sym (opened_i i d)) (proper i)) (cases_eq i a);
      words = λ y i. ⊎_elim (λ j. absurd (Memᴰ.not-nil j))
          (λ j. let (k, l, e) = each_in (linked m a) (request round a) (nodes m) y j in asked k l asks_q (asks_g k (apart m a k l)) (asks_n k) e)
          (into.cases y i);
      waits = λ i l.
          let t = into.counts (λ y. eqb (about y) i) in
          let h = hits_each (linked m a) (request round a) (λ j. refl) (nodes m) i (inside m a i l) l in
          let w = wait_is (at opened a) i (at opened i) true false false (ap is_request asks_q) (asks_n i) (asks_g i (apart m a i l)) in
          omega arith;
      done = λ h. absurd (both_ways (is_request (at opened a).phase) h (ap is_request asks_q));
      short = λ _. let (j, _, l) = some_find (linked m a) (nodes m) some in (j, l, asks_n j);
      marks = λ _ i _ h. absurd (both_ways (marked (at opened a).granted i) (asks_n i) h);
    }

    asks : Begun (record { board = opened; sent = asking_all; answer = Ok Asked })
    asks = record {
      episode = asks_episode;
      thrice = work_three m a (at opened) (λ i l. cost_is (at opened a) i (at opened i) true false false (ap is_request asks_q) (asks_n i) (asks_g i (apart m a i l)));
      only = record { slots = λ i d. ap (λ (v : Node). v.slot) (opened_i i d); rounds = λ i d. ap (λ (v : Node). v.round) (opened_i i d); stays = λ h. absurd (let z : ⊥ = omega arith in z) };
      few = let l = each_most (linked m a) (request round a) (nodes m) in let s = m.most in omega arith;
    }

  -- a has no neighbour

  module _ (lone : some_below (linked m a) (nodes m) ≡ false) where
    unlinked : {A : Type 0} (k : ℕ) → linked m a k ≡ true → A
    unlinked k l = absurd (both_ways (some_below (linked m a) (nodes m)) lone (some_at (linked m a) (nodes m) k (inside m a k l) l))

    -- the nodes once a has decided
    abbrev chosen : Board
    chosen = put opened a (decided (at opened a) (slot_for m opened a) (suc (decided_count (nodes m) opened)))

    abbrev telling : List Message
    telling = to_all m a (release (slot_for m opened a) (at opened a).round a)

    fits : ltb (lowest (at opened a).taken) 64 ≡ true
    fits = lt-ltb (lowest (at opened a).taken) 64 (let e : lowest (at opened a).taken ≡ 0 = ap (λ (v : Node). lowest v.taken) opened_a ∙ lowest-none in omega arith)

    end_a : at chosen a ≡ decided (at opened a) (slot_for m opened a) (suc (decided_count (nodes m) opened))
    end_a = at-put opened a _ (let l = length-set b a (asking (at b a)) in let n = long in omega arith)

    end_i : (i : ℕ) → (i ≡ a → ⊥) → at chosen i ≡ at b i
    end_i i d = at_other opened a i _ d ∙ opened_i i d

    end_q : is_request (at chosen a).phase ≡ false
    end_q = ap (λ (v : Node). is_request v.phase) end_a

    end_slot : 0 < (at chosen a).slot
    end_slot = let z : (at chosen a).slot ≡ slot_for m opened a = ap (λ (v : Node). v.slot) end_a in omega arith

    end_g : (i : ℕ) → is_grant (at chosen i).phase ≡ false
    end_g i = ⊎_elim (λ e. subst (λ (j : ℕ). is_grant (at chosen j).phase ≡ false) (sym e) (ap (λ (v : Node). is_grant v.phase) end_a)) (λ d. ap (λ (v : Node). is_grant v.phase) (end_i i d) ∙ (calm i).1) (cases_eq i a)

    lone_episode : (zs : List Message) → Into [] telling zs → Episode m a round (at chosen) zs
    lone_episode zs into = record {
      round = ap (λ (v : Node). v.round) end_a ∙ ap (λ (v : Node). v.round) opened_a;
      self = end_g a;
      others = λ i d. ap (λ (v : Node). is_request v.phase) (end_i i d) ∙ (calm i).0;
      locks = λ i h. absurd (both_ways (is_grant (at chosen i).phase) (end_g i) h);
      proper = λ i q g. ⊎_elim
          (λ e. subst (λ (j : ℕ). (at chosen j).phase ≡ (freed (at chosen j)).phase) (sym e) (freed_release (at chosen a) (ap (λ (v : Node). v.phase) end_a) end_slot))
          (λ d. subst (λ (v : Node). v.phase ≡ (freed v).phase) (sym (end_i i d)) (proper i)) (cases_eq i a);
      words = λ y i. ⊎_elim (λ j. absurd (Memᴰ.not-nil j)) (λ j. let (k, l, _) = each_in (linked m a) (release (slot_for m opened a) (at opened a).round a) (nodes m) y j in unlinked k l) (into.cases y i);
      waits = λ i l. unlinked i l;
      done = λ _. end_slot;
      short = λ p. absurd (both_ways (is_request (at chosen a).phase) end_q (ap is_request p));
      marks = λ p. absurd (both_ways (is_request (at chosen a).phase) end_q (ap is_request p));
    }

    decides : Begun (record { board = settled m opened a; sent = settled_sent m opened a; answer = Ok Decided })
    decides =
        subst (λ (c : Board). Begun (record { board = c; sent = settled_sent m opened a; answer = Ok Decided })) (sym (cond-true (ltb (lowest (at opened a).taken) 64) chosen (gave_up m opened a) fits))
        (subst (λ (sent : List Message). Begun (record { board = chosen; sent = sent; answer = Ok Decided })) (sym (cond-true (ltb (lowest (at opened a).taken) 64) telling (fail_all m opened a) fits)) (record {
          episode = lone_episode;
          thrice = work_three m a (at chosen) (λ i l. unlinked i l);
          only = record { slots = λ i d. ap (λ (v : Node). v.slot) (end_i i d); rounds = λ i d. ap (λ (v : Node). v.round) (end_i i d); stays = λ _. end_slot };
          few = let l = each_most (linked m a) (release (slot_for m opened a) (at opened a).round a) (nodes m) in let s = m.most in omega arith;
        }))

  pub begun : Begun (drawn m b a 1)
  begun = subst (λ (o : After Lottery). Begun o) (sym draw_wins) (cond_both (some_below (linked m a) (nodes m)) _ _ Begun asks decides)

  pub busy_first : {S : Type 0} (w : Ways S) → AirRule w → Sure w → (s : S) → w.air s ≡ [] → Busy w m a round (drawn m b a 1).board (puts w s (drawn m b a 1).sent)
  busy_first w rule sure s empty =
      let g = good_drawn m b fine a 1 in
      record {
        fine = g.keeps.fine;
        facts = λ y i. ⊎_elim (λ j. absurd (Memᴰ.not-nil (subst (λ (xs : List Message). In y xs) empty j))) (λ j. (g.sent y j).fact) (puts_air w rule s (drawn m b a 1).sent y i);
        episode = begun.episode _ (subst (λ (xs : List Message). Into xs (drawn m b a 1).sent (w.air (puts w s (drawn m b a 1).sent))) empty
            (goes_into w rule sure s (drawn m b a 1).sent (let e : length (w.air s) ≡ 0 = ap length empty in let f = begun.few in omega arith)));
      }
