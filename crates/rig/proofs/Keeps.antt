-- Every call keeps the laws: it touches one node, and a refusal leaves all as it was.
use Rattle.std.proofs.Common.{◌≡◌, ℕ, suc, ◌<◌, ◌≤◌, not, ◌&&◌, ◌||◌, eqb, ltb, ◌⊎◌, List, [], length, Some, None, Ok, Err, Option, Result, sym, refl, ap, ◌∙◌, subst, inl, inr, arith}
use Rattle.std.proofs.lemmas.List.{set_past}
use Rattle.std.proofs.lemmas.Bool.{cases_eq, cases_lt, cond_both, eqb-true, and_parts}
use Rattle.marks.specs.Below.{some_below}
use Rattle.refusal.specs.declared.Refusal.{Refusal}
use Rattle.map.specs.declared.Map.{Map}
use Rattle.map.specs.View.{nodes, linked}
use Rattle.radio.specs.declared.kind.Kind.{Kind}
use Rattle.radio.specs.declared.message.Message.{Message}
use Rattle.rig.specs.declared.node.Node.{Node}
use Rattle.rig.specs.declared.node.Phase.{Phase}
use Rattle.rig.specs.declared.node.Phase.TheVariants.{Idle, Request, Grant, Release}
use Rattle.rig.specs.declared.Lottery.{Lottery}
use Rattle.radio.specs.Ways.{Ways, puts}
use Rattle.rig.specs.Calm.{at, is_request, is_grant, Calm}
use Rattle.rig.specs.Board.{Board, put, decided_count}
use Rattle.rig.specs.Laws.{Decides, Touches, Lawful, LawfulDelivery}
use Rattle.rig.specs.Steps.{After, refused, asking, bound, counted, decided, phased, hearing, freed, waits, serves, lowest, slot_for, gave_up, settled, wins, won, drawn, nudges, nudged, foreign, sends, granting, on_request, complete, counts, on_grant, on_reject, frees, hears, received, delivered}
use Rattle.rig.proofs.Calms.{at-put, at_other}

-- one node touched

made : (b b' : Board) (n : ℕ) → ((k : ℕ) → (k ≡ n → ⊥) → at b' k ≡ at b k) → ((k : ℕ) → ((at b k).slot ≡ 0 → ⊥) → (at b' k).slot ≡ (at b k).slot)
    → ((k : ℕ) → (at b k).round ≤ (at b' k).round) → Touches b b' n
made b b' n others slots rounds = record { others = others; slots = slots; rounds = rounds; single = λ j k p q. alone j p ∙ sym (alone k q) }
  where
    alone : (k : ℕ) → Decides b b' k → k ≡ n
    alone k (u, d) = go (cases_eq k n)
      where
        go : (k ≡ n) ⊎ (k ≡ n → ⊥) → k ≡ n
        go (inl e) = e
        go (inr f) = absurd (d (ap (λ (v : Node). v.slot) (others k f) ∙ u))

pub none_touched : (b : Board) (n : ℕ) → Touches b b n
none_touched b n = made b b n (λ k _. refl) (λ k _. refl) (λ k. omega arith)

pub one_touched : (b : Board) (n : ℕ) (v : Node) → (((at b n).slot ≡ 0 → ⊥) → v.slot ≡ (at b n).slot) → (at b n).round ≤ v.round → Touches b (put b n v) n
one_touched b n v slot round = made b (put b n v) n (λ k d. at_other b n k v d) (λ k h. slots k h (cases_eq k n) (cases_lt n (length b))) (λ k. rounds k (cases_eq k n) (cases_lt n (length b)))
  where
    slots : (k : ℕ) → ((at b k).slot ≡ 0 → ⊥) → (k ≡ n) ⊎ (k ≡ n → ⊥) → (n < length b) ⊎ (length b ≤ n) → (at (put b n v) k).slot ≡ (at b k).slot
    slots k h (inl e) (inl l) =
        ap (λ (x : ℕ). (at (put b n v) x).slot) e ∙ ap (λ (w : Node). w.slot) (at-put b n v l)
        ∙ slot (λ z. h (ap (λ (x : ℕ). (at b x).slot) e ∙ z)) ∙ ap (λ (x : ℕ). (at b x).slot) (sym e)
    slots k h (inl e) (inr l) = ap (λ (c : Board). (at c k).slot) (set_past b n v l)
    slots k h (inr d) _ = ap (λ (w : Node). w.slot) (at_other b n k v d)

    rounds : (k : ℕ) → (k ≡ n) ⊎ (k ≡ n → ⊥) → (n < length b) ⊎ (length b ≤ n) → (at b k).round ≤ (at (put b n v) k).round
    rounds k (inl e) (inl l) =
        let x = ap (λ (x : ℕ). (at (put b n v) x).round) e ∙ ap (λ (w : Node). w.round) (at-put b n v l) in
        let y = ap (λ (x : ℕ). (at b x).round) e in
        omega arith
    rounds k (inl e) (inr l) = let x = ap (λ (c : Board). (at c k).round) (set_past b n v l) in omega arith
    rounds k (inr d) _ = let x = ap (λ (w : Node). w.round) (at_other b n k v d) in omega arith

pub then_touched : (b c d : Board) (n : ℕ) → Touches b c n → Touches c d n → Touches b d n
then_touched b c d n p q =
    made b d n (λ k f. q.others k f ∙ p.others k f)
    (λ k h. q.slots k (λ z. h (sym (p.slots k h) ∙ z)) ∙ p.slots k h)
    (λ k. let x = p.rounds k in let y = q.rounds k in omega arith)

-- what a call is said to do touches one node, and a refusal alters nothing and sends nothing

pub record Steady {A : Type 0} (b : Board) (n : ℕ) (a : After A) : Type 0 where
  pub touches : Touches b a.board n
  pub refusal : (e : Refusal) → a.answer ≡ Err e → (a.board ≡ b) × (a.sent ≡ [])

-- calls that refuse, and calls that do not

steady_refused : {A : Type 0} (b : Board) (n : ℕ) (e : Refusal) → Steady {A = A} b n (refused b e)
steady_refused b n e = record { touches = none_touched b n; refusal = λ _ _. (refl, refl) }

steady_ok : {A : Type 0} (b c : Board) (n : ℕ) (out : List Message) (o : A) → Touches b c n → Steady b n (record { board = c; sent = out; answer = Ok o })
steady_ok b c n out o t = record { touches = t; refusal = λ e q. absurd (let z : ◌≡◌ {A = ℕ} 0 1 = cc in omega arith) }

-- deciding

module _ (m : Map) where
  settled_touched : (b : Board) (k : ℕ) → (at b k).slot ≡ 0 → Touches b (settled m b k) k
  settled_touched b k u =
      cond_both (ltb (lowest (at b k).taken) 64) (put b k (decided (at b k) (slot_for m b k) (suc (decided_count (nodes m) b)))) (gave_up m b k) (λ c. Touches b c k)
      (λ _. one_touched b k (decided (at b k) (slot_for m b k) (suc (decided_count (nodes m) b))) (λ h. absurd (h u)) (omega arith))
      (λ _. one_touched b k (phased (at b k) Idle) (λ _. refl) (omega arith))

  -- a slot that is not there does not come by another change
  still_none : (b : Board) (k : ℕ) (v : Node) → (at b k).slot ≡ 0 → v.slot ≡ 0 → (at (put b k v) k).slot ≡ 0
  still_none b k v u z = go (cases_lt k (length b))
    where
      go : (k < length b) ⊎ (length b ≤ k) → (at (put b k v) k).slot ≡ 0
      go (inl l) = ap (λ (w : Node). w.slot) (at-put b k v l) ∙ z
      go (inr l) = ap (λ (c : Board). (at c k).slot) (set_past b k v l) ∙ u

  -- draw

  won_steady : (b : Board) (k : ℕ) → (at b k).slot ≡ 0 → Steady b k (won m b k)
  won_steady b k u =
      cond_both (some_below (linked m k) (nodes m)) _ _ (Steady b k)
      (λ _. steady_ok b (put b k (asking (at b k))) k _ _ asked)
      (λ _. steady_ok b (settled m (put b k (asking (at b k))) k) k _ _
      (then_touched b (put b k (asking (at b k))) (settled m (put b k (asking (at b k))) k) k asked
      (settled_touched (put b k (asking (at b k))) k (still_none b k (asking (at b k)) u u))))
    where
      asked : Touches b (put b k (asking (at b k))) k
      asked = one_touched b k (asking (at b k)) (λ _. refl) (omega arith)

  pub drawn_steady : (b : Board) (k v : ℕ) → Steady b k (drawn m b k v)
  drawn_steady b k v =
      cond_both (ltb k (nodes m)) _ _ (Steady b k)
      (λ _. cond_both (eqb (at b k).slot 0) _ _ (Steady b k)
      (λ u. cond_both (is_request (at b k).phase || is_grant (at b k).phase) _ _ (Steady b k) (λ _. steady_refused b k _)
      (λ _. cond_both (eqb (at b k).round 65535) _ _ (Steady b k) (λ _. steady_refused b k _)
      (λ _. cond_both (wins m k v) _ _ (Steady b k) (λ _. won_steady b k (eqb-true (at b k).slot 0 u)) (λ _. steady_ok b b k _ _ (none_touched b k)))))
      (λ _. steady_refused b k _))
      (λ _. steady_refused b k _)

  -- nudge

  nudges_steady : (b : Board) (k : ℕ) (p : Phase) → Steady b k (nudges m b k p)
  nudges_steady b k Idle = steady_refused b k _
  nudges_steady b k Request = steady_ok b b k _ _ (none_touched b k)
  nudges_steady b k Grant = steady_ok b b k _ _ (none_touched b k)
  nudges_steady b k Release = steady_refused b k _

  pub nudged_steady : (b : Board) (k : ℕ) → Steady b k (nudged m b k)
  nudged_steady b k = cond_both (ltb k (nodes m)) _ _ (Steady b k) (λ _. nudges_steady b k (at b k).phase) (λ _. steady_refused b k _)

  -- deliver

  module _ (b : Board) (calm : Calm b) (x : Message) where
    same : (out : List Message) (kind : Kind) → Steady b x.receiver (sends m b out kind)
    same out kind = steady_ok b b x.receiver out (Some kind) (none_touched b x.receiver)

    granting_steady : Steady b x.receiver (granting m b x)
    granting_steady = steady_ok b _ x.receiver _ _ (one_touched b x.receiver (bound (at b x.receiver) x.sender x.round) (λ _. refl) (omega arith))

    request_steady : (p : Phase) → Steady b x.receiver (on_request m b x p)
    request_steady Idle = granting_steady
    request_steady Request = same _ _
    request_steady Grant = cond_both (serves (at b x.receiver) x.sender x.round) _ _ (Steady b x.receiver) (λ _. same _ _) (λ _. same _ _)
    request_steady Release = granting_steady

    grant_steady : Steady b x.receiver (on_grant m b x)
    grant_steady =
        cond_both (waits (at b x.receiver) x.round) _ _ (Steady b x.receiver)
        (λ w. let u = calm x.receiver (and_parts (is_request (at b x.receiver).phase) (eqb x.round (at b x.receiver).round) w).0 in
        cond_both (complete m (counts m b x) x.receiver) _ _ (Steady b x.receiver)
        (λ _. steady_ok b (settled m (counts m b x) x.receiver) x.receiver _ _
        (then_touched b (counts m b x) (settled m (counts m b x) x.receiver) x.receiver marked
        (settled_touched (counts m b x) x.receiver (still_none b x.receiver (counted (at b x.receiver) x.sender x.slots) u u))))
        (λ _. steady_ok b (counts m b x) x.receiver _ _ marked))
        (λ _. cond_both (not (eqb (at b x.receiver).slot 0) && eqb (at b x.receiver).dated x.round) _ _ (Steady b x.receiver) (λ _. same _ _) (λ _. same _ _))
      where
        marked : Touches b (counts m b x) x.receiver
        marked = one_touched b x.receiver (counted (at b x.receiver) x.sender x.slots) (λ _. refl) (omega arith)

    reject_steady : Steady b x.receiver (on_reject m b x)
    reject_steady =
        cond_both (waits (at b x.receiver) x.round) _ _ (Steady b x.receiver)
        (λ _. steady_ok b (gave_up m b x.receiver) x.receiver _ _ (one_touched b x.receiver (phased (at b x.receiver) Idle) (λ _. refl) (omega arith)))
        (λ _. same _ _)

    freed_touched : (c : Board) → Touches c (frees m c x) x.receiver
    freed_touched c =
        cond_both (serves (at c x.receiver) x.sender x.round) (put c x.receiver (freed (at c x.receiver))) c (λ d. Touches c d x.receiver)
        (λ _. one_touched c x.receiver (freed (at c x.receiver)) (λ _. refl) (omega arith)) (λ _. none_touched c x.receiver)

    heard_touched : Touches b (hears m b x) x.receiver
    heard_touched = one_touched b x.receiver (hearing (at b x.receiver) x.slot) (λ _. refl) (omega arith)

    received_steady : Steady b x.receiver (received m b x)
    received_steady =
        cond_both (foreign m x) _ _ (Steady b x.receiver) (λ _. steady_refused b x.receiver _)
        (λ _. cond_both (eqb x.kind 1) _ _ (Steady b x.receiver) (λ _. request_steady (at b x.receiver).phase)
        (λ _. cond_both (eqb x.kind 2) _ _ (Steady b x.receiver) (λ _. grant_steady)
        (λ _. cond_both (eqb x.kind 3) _ _ (Steady b x.receiver) (λ _. reject_steady)
        (λ _. cond_both (eqb x.kind 4) _ _ (Steady b x.receiver)
        (λ _. steady_ok b (frees m (hears m b x) x) x.receiver _ _ (then_touched b (hears m b x) (frees m (hears m b x) x) x.receiver heard_touched (freed_touched (hears m b x))))
        (λ _. steady_ok b (frees m b x) x.receiver _ _ (freed_touched b))))))

-- so it is for rig and radio

done : {A S : Type 0} (w : Ways S) (b b' : Board) (s s' : S) (n : ℕ) (r : Result A Refusal) (a : After A) → Steady b n a → b' ≡ a.board → s' ≡ puts w s a.sent → r ≡ a.answer → Lawful b b' s s' n r
done w b b' s s' n r a t p q v = record {
  touches = subst (λ (c : Board). Touches b c n) (sym p) t.touches;
  refusal = λ e f. let z = t.refusal e (sym v ∙ f) in (p ∙ z.0, q ∙ ap (puts w s) z.1);
}

module _ {S : Type 0} (w : Ways S) (m : Map) (b b' : Board) (s s' : S) where
  pub drawn_lawful : (k v : ℕ) (r : Result Lottery Refusal) → b' ≡ (drawn m b k v).board → s' ≡ puts w s (drawn m b k v).sent → r ≡ (drawn m b k v).answer → Lawful b b' s s' k r
  drawn_lawful k v r = done w b b' s s' k r (drawn m b k v) (drawn_steady m b k v)

  pub delivered_lawful : Calm b → (o : Option Message) (r : Result (Option Kind) Refusal) → b' ≡ (delivered m b o).board → s' ≡ puts w s (delivered m b o).sent → r ≡ (delivered m b o).answer → LawfulDelivery b b' s s' o r
  delivered_lawful calm None r p q v = (p, q)
  delivered_lawful calm (Some x) r p q v = done w b b' s s' x.receiver r (received m b x) (received_steady m b calm x) p q v

pub nudged_lawful : {S : Type 0} (w : Ways S) (m : Map) (b : Board) (s s' : S) (k : ℕ) (r : Result ℕ Refusal) → s' ≡ puts w s (nudged m b k).sent → r ≡ (nudged m b k).answer → Lawful b b s s' k r
nudged_lawful w m b s s' k r q v = record {
  touches = none_touched b k;
  refusal = λ e f. (refl, q ∙ ap (puts w s) ((nudged_steady m b k).refusal e (sym v ∙ f)).1);
}
