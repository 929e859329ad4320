-- A delivery keeps the invariant.
use Rattle.std.proofs.Common.{◌≡◌, ℕ, suc, ◌-◌, ◌<◌, ◌≤◌, true, false, cond, not, ◌&&◌, ◌||◌, eqb, ltb, ◌⊎◌, List, [], ◌∷◌, Some, None, Err, Option, sym, refl, ap, ◌∙◌, subst, inl, inr, ⊎_elim, arith}
use Rattle.std.proofs.lemmas.Bool.{both_ways, cases_Bool, cases_eq, cases_lt, and_parts, and_from, or_parts, not-true, not-false, eq-eqb, eqb-true, eqb-false, ltb-false, cond_both}
use Rattle.marks.specs.Below.{some_below}
use Rattle.marks.specs.declared.Marks.{Marks}
use Rattle.marks.specs.View.{marked}
use Rattle.refusal.specs.declared.Refusal.{Refusal}
use Rattle.map.specs.View.{linked, nodes}
use Rattle.map.specs.declared.Map.{Map}
use Rattle.schedule.proofs.Slots.{some_at}
use Rattle.radio.specs.declared.kind.Kind.{Kind}
use Rattle.radio.specs.declared.kind.Kind.TheVariants.{Grant as GrantKind, Release as ReleaseKind, Fail as FailKind}
use Rattle.radio.specs.declared.message.Message.{Message}
use Rattle.rig.specs.declared.node.Node.{Node}
use Rattle.rig.specs.declared.node.Phase.{Phase}
use Rattle.rig.specs.declared.node.Phase.TheVariants.{Idle, Request, Grant, Release}
use Rattle.rig.specs.Calm.{at, is_request, is_grant}
use Rattle.rig.specs.Board.{Board, put}
use Rattle.rig.specs.Steps.{After, bound, counted, hearing, freed, waits, serves, offered, unmarked, foreign, sends, granting, on_request, complete, counts, settled, settled_sent, on_grant, on_reject, frees, hears, received, delivered, grant, release, fail}
use Rattle.law.proofs.Facts.{Locks, Live, Gone, Fact}
use Rattle.law.proofs.Turns.{not_zero}
use Rattle.law.proofs.Marking.{added_new}
use Rattle.law.proofs.Moves.{Quiet, idle_quiet, release_quiet, binds, learns, opens, counts as grows}
use Rattle.law.proofs.Sends.{Said, offered-bound, reject_true, release_true, fail_true, grant_true}
use Rattle.law.proofs.Boards.{Same, Fine, Keeps, Good, keeps_put, here, same_put, good_after, good_stay, good_refused, none_sent, one_sent}
use Rattle.law.proofs.Decide.{good_up, good_settle}

pub is-request : (p : Phase) → is_request p ≡ true → p ≡ Request
is-request Idle e = cc
is-request Request e = refl
is-request Grant e = cc
is-request Release e = cc

is-grant : (p : Phase) → is_grant p ≡ true → p ≡ Grant
is-grant Idle e = cc
is-grant Request e = cc
is-grant Grant e = refl
is-grant Release e = cc

pub waits_live : (v : Node) (r : ℕ) → waits v r ≡ true → Live v r
waits_live v r h = let (x, y) = and_parts (is_request v.phase) (eqb r v.round) h in (is-request v.phase x, sym (eqb-true r v.round y))

pub serves_locks : (v : Node) (a r : ℕ) → serves v a r ≡ true → Locks v a r
serves_locks v a r h =
    let (x, y) = and_parts (is_grant v.phase) (eqb v.holder a && eqb v.term r) h in
    let (y, z) = and_parts (eqb v.holder a) (eqb v.term r) y in
    (is-grant v.phase x, eqb-true v.holder a y, eqb-true v.term r z)

suc_pred : (s : ℕ) → (s ≡ 0 → ⊥) → s ≡ suc (s - 1)
suc_pred s h = ⊎_elim (λ z. absurd (h z)) (λ z. omega arith) (cases_eq s 0)

module _ (m : Map) (b : Board) (f : Fine m b) where
  module _ (x : Message) (fact : Fact (linked m) (at b) x) (link : linked m x.sender x.receiver ≡ true) where
    back : linked m x.receiver x.sender ≡ true
    back = m.both x.receiver x.sender ∙ link

    inside : x.receiver < nodes m
    inside = m.within x.receiver x.sender back

    good_granting : x.kind ≡ 1 → Quiet (at b x.receiver).phase → Good m b (granting m b x)
    good_granting e q = record {
      keeps = kept;
      sent = one_sent m (put b x.receiver (bound (at b x.receiver) x.sender x.round)) _ (subst (λ (s : Marks). Said m (at (put b x.receiver (bound (at b x.receiver) x.sender x.round))) (grant s x.round x.receiver x.sender)) same_set
          (grant_true m (at (put b x.receiver (bound (at b x.receiver) x.sender x.round))) kept.fine.nodes x.receiver x.sender x.round lock));
      moved = inl (same_put m b f x.receiver (bound (at b x.receiver) x.sender x.round) inside refl refl);
    }
      where
        kept : Keeps m b (put b x.receiver (bound (at b x.receiver) x.sender x.round))
        kept = keeps_put m b f x.receiver _ inside (binds (linked m) (at b) f.nodes x.receiver q x.sender x.round (m.both x.receiver x.sender ∙ link) (fact.asks e))

        at_k : at (put b x.receiver (bound (at b x.receiver) x.sender x.round)) x.receiver ≡ bound (at b x.receiver) x.sender x.round
        at_k = here m b f x.receiver (bound (at b x.receiver) x.sender x.round) inside

        same_set : offered (at (put b x.receiver (bound (at b x.receiver) x.sender x.round)) x.receiver) ≡ offered (at b x.receiver)
        same_set = ap offered at_k ∙ offered-bound (at b x.receiver) x.sender x.round

        lock : Locks (at (put b x.receiver (bound (at b x.receiver) x.sender x.round)) x.receiver) x.sender x.round
        lock = rw at_k (refl, refl, refl)

    good_request : x.kind ≡ 1 → (p : Phase) → (at b x.receiver).phase ≡ p → Good m b (on_request m b x p)
    good_request e Idle d = good_granting e (rw d idle_quiet)
    good_request e Request d = good_stay m b _ f refl (one_sent m b _ (reject_true m (at b) x.round x.receiver x.sender back))
    good_request e Grant d = cond_both (serves (at b x.receiver) x.sender x.round) _ _ (Good m b)
        (λ h. good_stay m b _ f refl (one_sent m b _ (grant_true m (at b) f.nodes x.receiver x.sender x.round (serves_locks (at b x.receiver) x.sender x.round h))))
        (λ _. good_stay m b _ f refl (one_sent m b _ (reject_true m (at b) x.round x.receiver x.sender back)))
    good_request e Release d = good_granting e (rw d release_quiet)

    -- a grant that comes too late
    good_late : x.kind ≡ 2 → waits (at b x.receiver) x.round ≡ false → Good m b (cond (not (eqb (at b x.receiver).slot 0) && eqb (at b x.receiver).dated x.round)
        (sends m b (release (at b x.receiver).slot x.round x.receiver x.sender ∷ []) GrantKind)
        (sends m b (fail x.round x.receiver x.sender ∷ []) GrantKind))
    good_late e w = cond_both (not (eqb (at b x.receiver).slot 0) && eqb (at b x.receiver).dated x.round) _ _ (Good m b)
        (λ h. good_stay m b _ f refl (one_sent m b _ (told (and_parts (not (eqb (at b x.receiver).slot 0)) (eqb (at b x.receiver).dated x.round) h))))
        (λ h. good_stay m b _ f refl (one_sent m b _ (fail_true m (at b) x.round x.receiver x.sender back (gone h (cases_lt x.round (at b x.receiver).round)))))
      where
        v : Node
        v = at b x.receiver

        has : (eqb (at b x.receiver).slot 0 ≡ false) → (at b x.receiver).slot ≡ suc ((at b x.receiver).slot - 1)
        has h = suc_pred (at b x.receiver).slot (eqb-false (at b x.receiver).slot 0 h)

        told : (not (eqb (at b x.receiver).slot 0) ≡ true) × (eqb (at b x.receiver).dated x.round ≡ true) → Said m (at b) (release (at b x.receiver).slot x.round x.receiver x.sender)
        told (h, d) =
            let s = has (not-true (eqb (at b x.receiver).slot 0) h) in
            release_true m (at b) (at b x.receiver).slot x.round x.receiver x.sender ((at b x.receiver).slot - 1) back (f.nodes.small x.receiver) s s
            (sym (f.nodes.dates x.receiver ((at b x.receiver).slot - 1) s) ∙ eqb-true (at b x.receiver).dated x.round d)

        gone : (not (eqb (at b x.receiver).slot 0) && eqb (at b x.receiver).dated x.round) ≡ false → (x.round < (at b x.receiver).round) ⊎ ((at b x.receiver).round ≤ x.round) → Gone (at b x.receiver) x.round
        gone h (inl l) = inl l
        gone h (inr l) = inr (same, (λ p. both_ways (waits (at b x.receiver) x.round) w (and_from (is_request (at b x.receiver).phase) (eqb x.round (at b x.receiver).round) (ap is_request p) (eq-eqb x.round (at b x.receiver).round same))), zero_slot (cases_Bool (eqb (at b x.receiver).slot 0)))
          where
            same : x.round ≡ (at b x.receiver).round
            same = let u = (fact.gives e).0 in omega arith

            zero_slot : (eqb (at b x.receiver).slot 0 ≡ true) ⊎ (eqb (at b x.receiver).slot 0 ≡ false) → (at b x.receiver).slot ≡ 0
            zero_slot (inl t) = eqb-true (at b x.receiver).slot 0 t
            zero_slot (inr n) = absurd (both_ways (not (eqb (at b x.receiver).slot 0) && eqb (at b x.receiver).dated x.round) h
                (and_from (not (eqb (at b x.receiver).slot 0)) (eqb (at b x.receiver).dated x.round) (ap not n)
                (eq-eqb (at b x.receiver).dated x.round (f.nodes.dates x.receiver ((at b x.receiver).slot - 1) (has n) ∙ sym same))))

    pub counts_kept : x.kind ≡ 2 → Live (at b x.receiver) x.round → Keeps m b (counts m b x)
    counts_kept e live = let (held, sound) = (fact.gives e).1 live in
        keeps_put m b f x.receiver _ inside (grows (linked m) (at b) f.nodes x.receiver m.apart live.0 x.sender x.slots
        (rw live.1 held) sound)

    good_count : x.kind ≡ 2 → waits (at b x.receiver) x.round ≡ true → Good m b (cond (complete m (counts m b x) x.receiver) (sends m (settled m (counts m b x) x.receiver) (settled_sent m (counts m b x) x.receiver) GrantKind) (sends m (counts m b x) [] GrantKind))
    good_count e w = cond_both (complete m (counts m b x) x.receiver) _ _ (Good m b)
        (λ h. good_after m b (counts m b x) _ kept same (good_settle m (counts m b x) kept.fine x.receiver inside (ap (λ (v : Node). v.phase) at_k ∙ live.0) (all h) _))
        (λ _. record { keeps = kept; sent = none_sent m; moved = inl same })
      where
        live : Live (at b x.receiver) x.round
        live = waits_live (at b x.receiver) x.round w

        kept : Keeps m b (counts m b x)
        kept = counts_kept e live

        same : Same b (counts m b x)
        same = same_put m b f x.receiver (counted (at b x.receiver) x.sender x.slots) inside refl refl

        at_k : at (counts m b x) x.receiver ≡ counted (at b x.receiver) x.sender x.slots
        at_k = here m b f x.receiver (counted (at b x.receiver) x.sender x.slots) inside

        all : complete m (counts m b x) x.receiver ≡ true → (c : ℕ) → linked m x.receiver c ≡ true → marked (at (counts m b x) x.receiver).granted c ≡ true
        all h c l = granted (cases_Bool (marked (at (counts m b x) x.receiver).granted c))
          where
            granted : (marked (at (counts m b x) x.receiver).granted c ≡ true) ⊎ (marked (at (counts m b x) x.receiver).granted c ≡ false) → marked (at (counts m b x) x.receiver).granted c ≡ true
            granted (inl t) = t
            granted (inr n) = absurd (both_ways (some_below (unmarked m (at (counts m b x) x.receiver) x.receiver) (nodes m)) (not-true _ h)
                (some_at (unmarked m (at (counts m b x) x.receiver) x.receiver) (nodes m) c (m.within c x.receiver (m.both c x.receiver ∙ l))
                (and_from (linked m x.receiver c) (not (marked (at (counts m b x) x.receiver).granted c)) l (ap not n))))

    good_grant : x.kind ≡ 2 → Good m b (on_grant m b x)
    good_grant e = cond_both (waits (at b x.receiver) x.round) _ _ (Good m b) (good_count e) (good_late e)

    good_reject : Good m b (on_reject m b x)
    good_reject = cond_both (waits (at b x.receiver) x.round) _ _ (Good m b)
        (λ w. good_up m b f x.receiver inside (waits_live (at b x.receiver) x.round w).0 _)
        (λ _. good_stay m b _ f refl (none_sent m))

    good_frees : (Live (at b x.sender) x.round → ⊥) → ((j : ℕ) → (at b x.sender).slot ≡ suc j → x.round ≡ (at b x.sender).round → marked (at b x.receiver).heard j ≡ true) → (kind : Kind) → Good m b (sends m (frees m b x) [] kind)
    good_frees over known kind = cond_both (serves (at b x.receiver) x.sender x.round) _ _ (λ c. Good m b (sends m c [] kind))
        (λ h. record {
          keeps = keeps_put m b f x.receiver (freed (at b x.receiver)) inside (opens (linked m) (at b) f.nodes x.receiver x.sender x.round (serves_locks (at b x.receiver) x.sender x.round h) over known);
          sent = none_sent m;
          moved = inl (same_put m b f x.receiver (freed (at b x.receiver)) inside refl refl);
        })
        (λ _. good_stay m b _ f refl (none_sent m))

    good_fail : x.kind ≡ 5 → Good m b (sends m (frees m b x) [] FailKind)
    good_fail e = good_frees (λ live. over live (fact.fails e)) (λ j s r. known j s r (fact.fails e)) FailKind
      where
        over : Live (at b x.sender) x.round → Gone (at b x.sender) x.round → ⊥
        over live (inl l) = let q = live.1 in omega arith
        over live (inr (_, n, _)) = n live.0

        known : (j : ℕ) → (at b x.sender).slot ≡ suc j → x.round ≡ (at b x.sender).round → Gone (at b x.sender) x.round → marked (at b x.receiver).heard j ≡ true
        known j s r (inl l) = absurd (omega arith)
        known j s r (inr (_, _, z)) = not_zero (at b x.sender).slot j z s

module _ (m : Map) (b : Board) (f : Fine m b) where
  good_release : (x : Message) → Fact (linked m) (at b) x → linked m x.sender x.receiver ≡ true → x.kind ≡ 4 → Good m b (sends m (frees m (hears m b x) x) [] ReleaseKind)
  good_release x fact link e = good_after m b (hears m b x) _ kept same (good_frees m (hears m b x) kept.fine x (kept.facts x fact) link over known ReleaseKind)
    where
      in_map : x.receiver < nodes m
      in_map = m.within x.receiver x.sender (m.both x.receiver x.sender ∙ link)

      kept : Keeps m b (hears m b x)
      kept = let (j, s, t, r) = fact.tells e in
          keeps_put m b f x.receiver _ in_map (learns (linked m) (at b) f.nodes x.receiver x.sender x.slot (m.both x.receiver x.sender ∙ link) (let z : (at b x.sender).slot ≡ suc (x.slot - 1) = omega arith in z))

      same : Same b (hears m b x)
      same = same_put m b f x.receiver (hearing (at b x.receiver) x.slot) in_map refl refl

      over : Live (at (hears m b x) x.sender) x.round → ⊥
      over live = let (j, s, t, r) = (kept.facts x fact).tells e in not_zero (at (hears m b x) x.sender).slot j (kept.fine.nodes.calm x.sender live.0) t

      known : (j : ℕ) → (at (hears m b x) x.sender).slot ≡ suc j → x.round ≡ (at (hears m b x) x.sender).round → marked (at (hears m b x) x.receiver).heard j ≡ true
      known j d _ = let (i, s, t, r) = (kept.facts x fact).tells e in
          rw (here m b f x.receiver (hearing (at b x.receiver) x.slot) in_map) (added_new (at b x.receiver).heard (x.slot - 1) j (let q = kept.fine.nodes.small x.sender in omega arith) (omega arith))

  good_received : (x : Message) → Fact (linked m) (at b) x → Good m b (received m b x)
  good_received x fact =
      cond_both (foreign m x) _ _ (Good m b) (λ _. good_refused m b f _) (λ n.
      let (kinds, rest) = or_parts (eqb x.kind 0 || ltb 5 x.kind) _ n in
      let (low, high) = or_parts (eqb x.kind 0) (ltb 5 x.kind) kinds in
      let link : linked m x.sender x.receiver ≡ true = not-false (linked m x.sender x.receiver) (or_parts (not (linked m x.sender x.receiver)) _ rest).0 in
      cond_both (eqb x.kind 1) _ _ (Good m b) (λ e. good_request m b f x fact link (eqb-true x.kind 1 e) (at b x.receiver).phase refl) (λ n1.
      cond_both (eqb x.kind 2) _ _ (Good m b) (λ e. good_grant m b f x fact link (eqb-true x.kind 2 e)) (λ n2.
      cond_both (eqb x.kind 3) _ _ (Good m b) (λ _. good_reject m b f x fact link) (λ n3.
      cond_both (eqb x.kind 4) _ _ (Good m b) (λ e. good_release x fact link (eqb-true x.kind 4 e)) (λ n4.
      good_fail m b f x fact link (omega (arith, eqb-false x.kind 0 low, ltb-false 5 x.kind high, eqb-false x.kind 1 n1, eqb-false x.kind 2 n2, eqb-false x.kind 3 n3, eqb-false x.kind 4 n4)))))))

  pub good_delivered : (o : Option Message) → ((x : Message) → o ≡ Some x → Fact (linked m) (at b) x) → Good m b (delivered m b o)
  good_delivered None h = good_stay m b _ f refl (none_sent m)
  good_delivered (Some x) h = good_received x (h x refl)

-- a message that is not foreign is not refused

record Answers {A : Type 0} (a : After A) : Type 0 where
  ok : (e : Refusal) → a.answer ≡ Err e → ⊥

module _ (m : Map) where
  sends_ok : (b : Board) (out : List Message) (kind : Kind) → Answers (sends m b out kind)
  sends_ok b out kind = record { ok = λ e h. cc }

  module _ (b : Board) (x : Message) where
    request_ok : (p : Phase) → Answers (on_request m b x p)
    request_ok Idle = sends_ok _ _ _
    request_ok Request = sends_ok _ _ _
    request_ok Grant = cond_both (serves (at b x.receiver) x.sender x.round) _ _ Answers (λ _. sends_ok _ _ _) (λ _. sends_ok _ _ _)
    request_ok Release = sends_ok _ _ _

    grant_ok : Answers (on_grant m b x)
    grant_ok =
        cond_both (waits (at b x.receiver) x.round) _ _ Answers
        (λ _. cond_both (complete m (counts m b x) x.receiver) _ _ Answers (λ _. sends_ok _ _ _) (λ _. sends_ok _ _ _))
        (λ _. cond_both (not (eqb (at b x.receiver).slot 0) && eqb (at b x.receiver).dated x.round) _ _ Answers (λ _. sends_ok _ _ _) (λ _. sends_ok _ _ _))

    received_ok : foreign m x ≡ false → Answers (received m b x)
    received_ok n =
        cond_both (foreign m x) _ _ Answers (λ t. absurd (both_ways (foreign m x) n t))
        (λ _. cond_both (eqb x.kind 1) _ _ Answers (λ _. request_ok (at b x.receiver).phase)
        (λ _. cond_both (eqb x.kind 2) _ _ Answers (λ _. grant_ok)
        (λ _. cond_both (eqb x.kind 3) _ _ Answers (λ _. cond_both (waits (at b x.receiver) x.round) _ _ Answers (λ _. sends_ok _ _ _) (λ _. sends_ok _ _ _))
        (λ _. cond_both (eqb x.kind 4) _ _ Answers (λ _. sends_ok _ _ _) (λ _. sends_ok _ _ _)))))

  pub delivered_ok : (b : Board) (o : Option Message) → ((x : Message) → o ≡ Some x → foreign m x ≡ false) → (e : Refusal) → (delivered m b o).answer ≡ Err e → ⊥
  delivered_ok b None n = λ e h. cc
  delivered_ok b (Some x) n = (received_ok b x (n x refl)).ok
