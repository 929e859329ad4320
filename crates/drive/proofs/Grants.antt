-- The third delivery about a neighbour: the grant comes, and is marked; the last of them decides.
use Rattle.std.proofs.Common.{◌≡◌, ℕ, suc, ◌+◌, ◌<◌, Bool, true, false, cond, not, ◌||◌, eqb, ltb, ◌⊎◌, List, [], length, Option, sym, refl, ap, ◌∙◌, subst, inl, inr, ⊎_elim, arith}
use mathlib.Core.List.Memᴰ
use Rattle.std.proofs.lemmas.List.{length-set}
use Rattle.std.proofs.lemmas.Bool.{both_ways, cases_Bool, cases_eq, and_from, and_parts, not-true, not-false, eq-eqb, ne_eqb, lt-ltb, cond_both, cond-true, cond-false}
use Rattle.marks.specs.Below.{some_below}
use Rattle.marks.specs.Sets.{added}
use Rattle.marks.specs.View.{marked}
use Rattle.marks.specs.declared.Marks.{Marks}
use Rattle.marks.proofs.Sets.{marked-collect}
use Rattle.map.specs.View.{linked, nodes}
use Rattle.map.specs.declared.Map.{Map}
use Rattle.schedule.proofs.Slots.{some_find, some_at}
use Rattle.radio.specs.Ways.{In}
use Rattle.radio.specs.declared.kind.Kind.{Kind}
use Rattle.radio.specs.declared.kind.Kind.TheVariants.{Grant as GrantKind}
use Rattle.radio.specs.declared.message.Message.{Message}
use Rattle.rig.specs.declared.node.Node.{Node}
use Rattle.rig.specs.declared.node.Phase.TheVariants.{Request}
use Rattle.rig.specs.Calm.{at, is_request, is_grant}
use Rattle.rig.specs.Board.{Board, put, decided_count}
use Rattle.rig.specs.Steps.{After, grant, release, waits, counted, freed, decided, lowest, slot_for, foreign, received, complete, unmarked, counts, settled, settled_sent, gave_up, fail_all, to_all, sends}
use Rattle.rig.proofs.Calms.{at-put, at_other}
use Rattle.rig.proofs.Rows.{each_most}
use Rattle.law.proofs.Marking.{added_new}
use Rattle.law.proofs.Sends.{each_in}
use Rattle.drive.proofs.Airs.{Out, Into}
use Rattle.drive.proofs.Comes.{Went, only_put}
use Rattle.drive.proofs.Episode.{about, hits, work, told, Episode}
use Rattle.drive.proofs.Hits.{one_if, none_if, hits_in, hits_each, wait_small, wait_is, cost_is}
use Rattle.drive.proofs.Moves.{freed_release, apart, inside, word_about, Moved, moves, works, work_less}

or_no : (v : Bool) → (v || false) ≡ v
or_no true = refl
or_no false = refl

added_off : (s : Marks) (k i : ℕ) → i < 64 → (i ≡ k → ⊥) → marked (added s k) i ≡ marked s i
added_off s k i l d = marked-collect (λ j. marked s j || eqb j k) i l ∙ ap (λ (v : Bool). marked s i || v) (ne_eqb i k d) ∙ or_no (marked s i)

module _ (m : Map) (a r : ℕ) (b : Board) (long : length b ≡ 64) (k : ℕ) (link : linked m a k ≡ true) (xs ys : List Message)
    (ep : Episode m a r (at b) xs) (s : Marks) (out : Out (grant s r k a) xs ys)
    (q : (at b a).phase ≡ Request) (g : is_grant (at b k).phase ≡ true) (n : marked (at b a).granted k ≡ false) where
  far : k ≡ a → ⊥
  far = apart m a k link

  in_a : a < length b
  in_a = let s = m.most in let l = m.within a k link in omega arith

  small : (i : ℕ) → linked m a i ≡ true → i < 64
  small i l = let s = m.most in let q = inside m a i l in omega arith

  -- the nodes once the grant is marked
  abbrev marking : Board
  marking = counts m b (grant s r k a)

  at_a : at marking a ≡ counted (at b a) k s
  at_a = at-put b a (counted (at b a) k s) in_a

  at_i : (i : ℕ) → (i ≡ a → ⊥) → at marking i ≡ at b i
  at_i i d = at_other b a i (counted (at b a) k s) d

  now_k : marked (at marking a).granted k ≡ true
  now_k = ap (λ (v : Node). marked v.granted k) at_a ∙ added_new (at b a).granted k k (small k link) refl

  now_i : (i : ℕ) → linked m a i ≡ true → (i ≡ k → ⊥) → marked (at marking a).granted i ≡ marked (at b a).granted i
  now_i i l d = ap (λ (v : Node). marked v.granted i) at_a ∙ added_off (at b a).granted k i (small i l) d

  now_q : (at marking a).phase ≡ Request
  now_q = ap (λ (v : Node). v.phase) at_a ∙ q

  now_g : is_grant (at marking k).phase ≡ true
  now_g = ap (λ (v : Node). is_grant v.phase) (at_i k far) ∙ g

  received-grant : received m b (grant s r k a) ≡ cond (complete m marking a) (sends m (settled m marking a) (settled_sent m marking a) GrantKind) (sends m marking [] GrantKind)
  received-grant =
      cond-false (foreign m (grant s r k a)) _ _ (ap (λ (v : Bool). not v || false) (m.both k a ∙ link))
      ∙ cond-true (waits (at b a) r) _ _ (and_from (is_request (at b a).phase) (eqb r (at b a).round) (ap is_request q) (eq-eqb r (at b a).round (sym ep.round)))

  -- some neighbour is not marked yet

  counted_moved : complete m marking a ≡ false → Moved m a r (at b) (at marking) k []
  counted_moved c = record {
    phase = ap (λ (v : Node). v.phase) at_a;
    round = ap (λ (v : Node). v.round) at_a;
    slot = ap (λ (v : Node). v.slot) at_a;
    same = λ i _ d. at_i i d;
    granted = now_i;
    calm = ap (λ (v : Node). is_request v.phase) (at_i k far) ∙ ep.others k far;
    lock = λ _. let (_, x, y) = ep.locks k g in (ap (λ (v : Node). v.holder) (at_i k far) ∙ x, ap (λ (v : Node). v.term) (at_i k far) ∙ y);
    proper = λ h. absurd (both_ways (is_grant (at marking k).phase) h now_g);
    words = λ y i. absurd (Memᴰ.not-nil i);
    here = sym (wait_is (at marking a) k (at marking k) true true true (ap is_request now_q) now_k now_g);
    there = λ i d. refl;
    short = λ _.
        let (j, l, h) = some_find (unmarked m (at marking a) a) (nodes m) (not-false _ c) in
        let (x, y) = and_parts (linked m a j) (not (marked (at marking a).granted j)) h in
        (j, x, not-true (marked (at marking a).granted j) y);
    marks = λ _ _. now_g;
    less =
        let x = cost_is (at marking a) k (at marking k) true true true (ap is_request now_q) now_k now_g in
        let y = cost_is (at b a) k (at b k) true false true (ap is_request q) n g in
        omega arith;
  }

  grant_counts : complete m marking a ≡ false → Went m a r b ys (sends m marking [] GrantKind)
  grant_counts c = record {
    episode = moves m a r (at b) (at marking) k link (grant s r k a) xs ys [] out ep refl (counted_moved c);
    less = works m a r (at b) (at marking) k link (grant s r k a) xs ys [] out ep refl (counted_moved c);
    only = only_put a b a (counted (at b a) k s) in_a refl refl;
    few = omega arith;
    came = (GrantKind, refl);
  }

  -- all neighbours are marked

  module _ (c : complete m marking a ≡ true) where
    all : (i : ℕ) → linked m a i ≡ true → marked (at marking a).granted i ≡ true
    all i l = granted (cases_Bool (marked (at marking a).granted i))
      where
        granted : (marked (at marking a).granted i ≡ true) ⊎ (marked (at marking a).granted i ≡ false) → marked (at marking a).granted i ≡ true
        granted (inl t) = t
        granted (inr f) = absurd (both_ways (some_below (unmarked m (at marking a) a) (nodes m)) (not-true _ c)
            (some_at (unmarked m (at marking a) a) (nodes m) i (inside m a i l) (and_from (linked m a i) (not (marked (at marking a).granted i)) l (ap not f))))

    grants : (i : ℕ) → linked m a i ≡ true → is_grant (at b i).phase ≡ true
    grants i l = ⊎_elim (λ e. subst (λ (j : ℕ). is_grant (at b j).phase ≡ true) (sym e) g) (λ d. ep.marks q i l (sym (now_i i l d) ∙ all i l)) (cases_eq i k)

    -- so nothing else waits
    none_about : (i : ℕ) → linked m a i ≡ true → hits i ys ≡ 0
    none_about i l = at_either (cases_eq i k)
      where
        at_either : (i ≡ k) ⊎ (i ≡ k → ⊥) → hits i ys ≡ 0
        at_either (inl e) =
            let h = ep.waits i l in
            let t = out.counts (λ y. eqb (about y) i) in
            let o = one_if k i (sym e) in
            let w = wait_small (at b a) i (at b i) in
            omega arith
        at_either (inr d) =
            let h = ep.waits i l in
            let t = out.counts (λ y. eqb (about y) i) in
            let o = none_if k i (λ e. d (sym e)) in
            let w = wait_is (at b a) i (at b i) true true (is_grant (at b i).phase) (ap is_request q) (sym (now_i i l d) ∙ all i l) refl in
            omega arith

    none_left : (y : Message) → In y ys → ⊥
    none_left y i =
        let (j, l, e) = word_about m a r (at b) y (ep.words y (out.left y i)) in
        let h = hits_in j ys y i e in
        let z = none_about j l in
        omega arith

    module _ (free : lowest (at marking a).taken < 64) where
      -- the nodes once a has decided, and what it sends
      abbrev chosen : Board
      chosen = put marking a (decided (at marking a) (slot_for m marking a) (suc (decided_count (nodes m) marking)))

      abbrev telling : List Message
      telling = to_all m a (release (slot_for m marking a) (at marking a).round a)

      end_a : at chosen a ≡ decided (at marking a) (slot_for m marking a) (suc (decided_count (nodes m) marking))
      end_a = at-put marking a _ (let l = length-set b a (counted (at b a) k s) in let n = in_a in omega arith)

      end_i : (i : ℕ) → (i ≡ a → ⊥) → at chosen i ≡ at b i
      end_i i d = at_other marking a i _ d ∙ at_i i d

      end_q : is_request (at chosen a).phase ≡ false
      end_q = ap (λ (v : Node). is_request v.phase) end_a

      end_g : (i : ℕ) → linked m a i ≡ true → is_grant (at chosen i).phase ≡ true
      end_g i l = ap (λ (v : Node). is_grant v.phase) (end_i i (apart m a i l)) ∙ grants i l

      end_slot : 0 < (at chosen a).slot
      end_slot = let z : (at chosen a).slot ≡ slot_for m marking a = ap (λ (v : Node). v.slot) end_a in omega arith

      now_round : (at marking a).round ≡ r
      now_round = ap (λ (v : Node). v.round) at_a ∙ ep.round

      not_a : (i : ℕ) → is_grant (at chosen i).phase ≡ true → i ≡ a → ⊥
      not_a i h e = both_ways (is_grant (at chosen a).phase) (ap (λ (v : Node). is_grant v.phase) end_a) (subst (λ (j : ℕ). is_grant (at chosen j).phase ≡ true) e h)

      ended : (zs : List Message) → Into ys telling zs → Episode m a r (at chosen) zs
      ended zs into = record {
        round = ap (λ (v : Node). v.round) end_a ∙ now_round;
        self = ap (λ (v : Node). is_grant v.phase) end_a;
        others = λ i d. ap (λ (v : Node). is_request v.phase) (end_i i d) ∙ ep.others i d;
        locks = λ i h. let d = not_a i h in subst (λ (v : Node). (linked m a i ≡ true) × (v.holder ≡ a) × (v.term ≡ r)) (sym (end_i i d)) (ep.locks i (subst (λ (v : Node). is_grant v.phase ≡ true) (end_i i d) h));
        proper = λ i x y. ⊎_elim
            (λ e. subst (λ (j : ℕ). (at chosen j).phase ≡ (freed (at chosen j)).phase) (sym e) (freed_release (at chosen a) (ap (λ (v : Node). v.phase) end_a) end_slot))
            (λ d. subst (λ (v : Node). v.phase ≡ (freed v).phase) (sym (end_i i d)) (ep.proper i (subst (λ (v : Node). is_request v.phase ≡ false) (end_i i d) x) (subst (λ (v : Node). is_grant v.phase ≡ false) (end_i i d) y)))
            (cases_eq i a);
        words = λ y i. ⊎_elim (λ j. absurd (none_left y j))
            (λ j. let (i, l, e) = each_in (linked m a) (release (slot_for m marking a) (at marking a).round a) (nodes m) y j in
            told i (lowest (at marking a).taken) free l end_q (end_g i l) (e ∙ ap (λ (x : ℕ). release (slot_for m marking a) x a i) now_round))
            (into.cases y i);
        waits = λ i l.
            let t = into.counts (λ y. eqb (about y) i) in
            let z = none_about i l in
            let h = hits_each (linked m a) (release (slot_for m marking a) (at marking a).round a) (λ j. refl) (nodes m) i (inside m a i l) l in
            let w = wait_is (at chosen a) i (at chosen i) false (marked (at chosen a).granted i) true end_q refl (end_g i l) in
            omega arith;
        done = λ _. end_slot;
        short = λ p. absurd (both_ways (is_request (at chosen a).phase) end_q (ap is_request p));
        marks = λ p. absurd (both_ways (is_request (at chosen a).phase) end_q (ap is_request p));
      }

      lesser : work m a (at b) ≡ work m a (at chosen) + 1
      lesser = work_less m a (at b) (at chosen) k link
          (let x = cost_is (at chosen a) k (at chosen k) false (marked (at chosen a).granted k) true end_q refl (end_g k link) in
          let y = cost_is (at b a) k (at b k) true false true (ap is_request q) n g in
          omega arith)
          (λ i d l.
          let x = cost_is (at chosen a) i (at chosen i) false (marked (at chosen a).granted i) true end_q refl (end_g i l) in
          let y = cost_is (at b a) i (at b i) true true (is_grant (at b i).phase) (ap is_request q) (sym (now_i i l d) ∙ all i l) refl in
          omega arith)

      grant_settles : Went m a r b ys (sends m (settled m marking a) (settled_sent m marking a) GrantKind)
      grant_settles =
          subst (λ (d : Board). Went m a r b ys (sends m d (settled_sent m marking a) GrantKind)) (sym (cond-true (ltb (lowest (at marking a).taken) 64) chosen (gave_up m marking a) fits))
          (subst (λ (sent : List Message). Went m a r b ys (sends m chosen sent GrantKind)) (sym (cond-true (ltb (lowest (at marking a).taken) 64) telling (fail_all m marking a) fits)) (record {
            episode = ended;
            less = lesser;
            only = record { slots = λ i d. ap (λ (v : Node). v.slot) (end_i i d); rounds = λ i d. ap (λ (v : Node). v.round) (end_i i d); stays = λ _. end_slot };
            few = let l = each_most (linked m a) (release (slot_for m marking a) (at marking a).round a) (nodes m) in let s = m.most in omega arith;
            came = (GrantKind, refl);
          }))
        where
          fits : ltb (lowest (at marking a).taken) 64 ≡ true
          fits = lt-ltb (lowest (at marking a).taken) 64 free

  pub grant_comes : lowest (at marking a).taken < 64 → Went m a r b ys (received m b (grant s r k a))
  grant_comes free = subst (λ (o : After (Option Kind)). Went m a r b ys o) (sym received-grant) (cond_both (complete m marking a) _ _ (Went m a r b ys) (λ c. grant_settles c free) grant_counts)
