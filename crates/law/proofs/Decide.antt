-- RAND's step: a node that all its neighbours granted takes the slot that RAND gives it next; and a slot is always free.
use Rattle.std.proofs.Common.{◌≡◌, ℕ, zero, suc, ◌+◌, ◌<◌, ◌≤◌, Bool, true, false, cond, ◌&&◌, eqb, ltb, ◌⊎◌, Result, refl, ap, ◌∙◌, inl, inr, ⊎_elim, arith}
use Rattle.std.proofs.lemmas.Bool.{both_ways, cases_Bool, cases_eq, cases_lt, and_parts, and_from, eq-eqb, eqb-true, lt-ltb, cond-true}
use Rattle.marks.specs.Below.{sum_below, count_below}
use Rattle.marks.specs.View.{marked}
use Rattle.marks.proofs.Below.{count_le}
use Rattle.refusal.specs.declared.Refusal.{Refusal}
use Rattle.map.specs.View.{linked, nodes, contend}
use Rattle.map.specs.declared.Map.{Map}
use Rattle.map.proofs.Contends.{contend_decides, contend_apart, contend_swap, contend_inside}
use Rattle.schedule.specs.Rand.{first_from, holds, least}
use Rattle.schedule.proofs.Slots.{some_find, some_at, crowd, first_below, least_is}
use Rattle.rig.specs.declared.node.Node.{Node}
use Rattle.rig.specs.declared.node.Phase.TheVariants.{Idle, Request}
use Rattle.rig.specs.Calm.{at}
use Rattle.rig.specs.Board.{Board, put, decided_count}
use Rattle.rig.specs.Steps.{lowest, decided, phased, slot_for, settled, settled_sent, gave_up, fail_all, to_all, release, fail}
use Rattle.rig.proofs.Calms.{at_other}
use Rattle.law.proofs.Facts.{Gone, Nodes}
use Rattle.law.proofs.Moves.{decides, leaves, idle_quiet}
use Rattle.law.proofs.Sends.{each_in, release_true, fail_true}
use Rattle.law.proofs.Boards.{Fine, Good, keeps_put, here, same_put}

-- the slots taken are those of the contenders

module _ (m : Map) (nd : ℕ → Node) (inv : Nodes (linked m) nd) (k : ℕ) (q : (nd k).phase ≡ Request) where
  taken-holds : (t : ℕ) → marked (nd k).taken t ≡ true → holds (contend m) (nodes m) (λ i. (nd i).slot) k (suc t) ≡ true
  taken-holds t h =
      let (c, d, e) = inv.takes k t q h in
      some_at (λ i. contend m k i && eqb (nd i).slot (suc t)) (nodes m) c (contend_inside m c k (contend_swap m k c d))
      (and_from (contend m k c) (eqb (nd c).slot (suc t)) ((contend_decides m k c).1 d) (eq-eqb (nd c).slot (suc t) e))

  -- what stands below the smallest that is not taken is taken
  below_taken : (t : ℕ) → t < lowest (nd k).taken → marked (nd k).taken t ≡ true
  unfolding lowest
  below_taken t l = first_below (marked (nd k).taken) 0 64 t (omega arith) l

  below_held : (t : ℕ) → 1 ≤ t → t < suc (lowest (nd k).taken) → holds (contend m) (nodes m) (λ i. (nd i).slot) k t ≡ true
  below_held zero a b = absurd (omega arith)
  below_held (suc t) a b = taken-holds t (below_taken t (omega arith))

-- who does not clash with itself leaves a place
count_miss : (c : ℕ → Bool) (n k : ℕ) → k < n → c k ≡ false → count_below c n + 1 ≤ n
unfolding sum_below
count_miss c zero k l e = absurd (omega arith)
count_miss c (suc n) k l e = go (λ q. count_miss c n k q e) (cases_eq n k)
  where
    small : (v : Bool) → cond v 1 0 ≤ 1
    small true = omega arith
    small false = omega arith

    go : (k < n → count_below c n + 1 ≤ n) → (n ≡ k) ⊎ (n ≡ k → ⊥) → (count_below c n + cond (c n) 1 0) + 1 ≤ suc n
    go ih (inl d) = let z : ◌≡◌ {A = ℕ} (cond (c n) 1 0) 0 = ap (λ (v : Bool). cond {A = ℕ} v 1 0) (ap c d ∙ e) in let h = count_le c n in omega arith
    go ih (inr d) = let h = ih (omega arith) in let o = small (c n) in omega arith

-- a slot of the 64 is free: a node has at most 63 contenders
pub slot_free : (m : Map) (nd : ℕ → Node) → Nodes (linked m) nd → (k : ℕ) → k < nodes m → (nd k).phase ≡ Request → lowest (nd k).taken < 64
slot_free m nd inv k l q = ⊎_elim (λ h. h) (λ h. absurd (full h)) (cases_lt (lowest (nd k).taken) 64)
  where
    full : 64 ≤ lowest (nd k).taken → ⊥
    full h =
        let c = crowd (contend m k) (λ i. (nd i).slot) (nodes m) 64 (λ t a b. below_held m nd inv k q t a (omega arith)) in
        let t = count_miss (contend m k) (nodes m) k l (contend_apart m k) in
        let s = m.most in
        omega arith

first_fails : (p : ℕ → Bool) (s k : ℕ) → first_from p s k < s + k → p (first_from p s k) ≡ false
unfolding first_from
first_fails p s zero h = absurd (omega arith)
first_fails p s (suc k) h = go (λ i. first_fails p (suc s) k i) (p s) refl h
  where
    go : (first_from p (suc s) k < suc s + k → p (first_from p (suc s) k) ≡ false) → (v : Bool) → p s ≡ v → cond v (first_from p (suc s) k) s < s + suc k → p (cond v (first_from p (suc s) k) s) ≡ false
    go ih true e i = ih (omega arith)
    go ih false e i = e

module _ (m : Map) (nd : ℕ → Node) (inv : Nodes (linked m) nd) (k : ℕ) (q : (nd k).phase ≡ Request)
    (all : (c : ℕ) → linked m k c ≡ true → marked (nd k).granted c ≡ true) where
  holds-taken : (t : ℕ) → holds (contend m) (nodes m) (λ i. (nd i).slot) k (suc t) ≡ true → marked (nd k).taken t ≡ true
  holds-taken t h =
      let (c, l, p) = some_find (λ i. contend m k i && eqb (nd i).slot (suc t)) (nodes m) h in
      let (x, y) = and_parts (contend m k c) (eqb (nd c).slot (suc t)) p in
      from c (eqb-true (nd c).slot (suc t) y) ((contend_decides m k c).0 x).1
    where
      from : (c : ℕ) → (nd c).slot ≡ suc t → (linked m k c ≡ true) ⊎ ((i : ℕ) × (linked m k i ≡ true) × (linked m i c ≡ true)) → marked (nd k).taken t ≡ true
      from c e (inl l) = (inv.grants k c q (all c l)).2 c t (inl refl) e
      from c e (inr (i, l, l')) = (inv.grants k i q (all i l)).2 c t (inr l') e

  lowest_missing : lowest (nd k).taken < 64 → marked (nd k).taken (lowest (nd k).taken) ≡ false
  unfolding lowest
  lowest_missing l = first_fails (marked (nd k).taken) 0 64 (omega arith)

  -- so the smallest that is not taken is the smallest that no contender holds
  pub lowest-least : lowest (nd k).taken < 64 → suc (lowest (nd k).taken) ≡ least (contend m) (nodes m) (λ i. (nd i).slot) k
  lowest-least h =
      least_is (contend m) (nodes m) (λ i. (nd i).slot) k (suc (lowest (nd k).taken)) (omega arith)
      (unheld (cases_Bool (holds (contend m) (nodes m) (λ i. (nd i).slot) k (suc (lowest (nd k).taken))))) (below_held m nd inv k q)
    where
      unheld : (holds (contend m) (nodes m) (λ i. (nd i).slot) k (suc (lowest (nd k).taken)) ≡ true) ⊎ (holds (contend m) (nodes m) (λ i. (nd i).slot) k (suc (lowest (nd k).taken)) ≡ false)
          → holds (contend m) (nodes m) (λ i. (nd i).slot) k (suc (lowest (nd k).taken)) ≡ false
      unheld (inl t) = absurd (both_ways (marked (nd k).taken (lowest (nd k).taken)) (lowest_missing h) (holds-taken (lowest (nd k).taken) t))
      unheld (inr f) = f

-- giving up, and deciding

module _ (m : Map) (b : Board) (f : Fine m b) (k : ℕ) (l : k < nodes m) (q : (at b k).phase ≡ Request) where
  pub good_up : {A : Type 0} (o : Result A Refusal) → Good m b (record { board = gave_up m b k; sent = fail_all m b k; answer = o })
  good_up o = record {
    keeps = keeps_put m b f k (phased (at b k) Idle) l (leaves (linked m) (at b) f.nodes k q);
    sent = λ x i.
        let (j, near, e) = each_in (linked m k) (fail (at b k).round k) (nodes m) x i in
        rw e (fail_true m (at (gave_up m b k)) (at b k).round k j near gone);
    moved = inl (same_put m b f k (phased (at b k) Idle) l refl refl);
  }
    where
      gone : Gone (at (gave_up m b k) k) (at b k).round
      gone = rw (here m b f k (phased (at b k) Idle) l) (inr (refl, idle_quiet.0, f.nodes.calm k q))

  free : lowest (at b k).taken < 64
  free = slot_free m (at b) f.nodes k l q

  -- the nodes once k has decided
  abbrev chosen : Board
  chosen = put b k (decided (at b k) (slot_for m b k) (suc (decided_count (nodes m) b)))

  settled_is : settled m b k ≡ chosen
  settled_is = cond-true (ltb (lowest (at b k).taken) 64) _ (gave_up m b k) (lt-ltb (lowest (at b k).taken) 64 free)

  sent_is : settled_sent m b k ≡ to_all m k (release (slot_for m b k) (at b k).round k)
  sent_is = cond-true (ltb (lowest (at b k).taken) 64) _ (fail_all m b k) (lt-ltb (lowest (at b k).taken) 64 free)

  pub good_settle : ((c : ℕ) → linked m k c ≡ true → marked (at b k).granted c ≡ true) → {A : Type 0} (o : Result A Refusal)
      → Good m b (record { board = settled m b k; sent = settled_sent m b k; answer = o })
  good_settle all {A} o =
      rw (settled_is, sent_is) done
    where
      at_k : at chosen k ≡ decided (at b k) (slot_for m b k) (suc (decided_count (nodes m) b))
      at_k = here m b f k (decided (at b k) (slot_for m b k) (suc (decided_count (nodes m) b))) l

      done : Good m {A = A} b (record {
        board = chosen;
        sent = to_all m k (release (slot_for m b k) (at b k).round k);
        answer = o;
      })
      done = record {
        keeps = keeps_put m b f k _ l (decides (linked m) (at b) f.nodes k q (λ c h. (f.nodes.grants k c q (all c (m.both k c ∙ h))).1) (lowest (at b k).taken) (suc (decided_count (nodes m) b)) free);
        sent = λ x i.
            let (j, near, e) = each_in (linked m k) (release (slot_for m b k) (at b k).round k) (nodes m) x i in
            rw e
            (release_true m (at chosen) (slot_for m b k) (at b k).round k j (lowest (at b k).taken) near
            (let s = free in omega arith) refl (ap (λ (v : Node). v.slot) at_k) (ap (λ (v : Node). v.round) at_k));
        moved = inr (
          k,
          record {
            inside = l;
            before = f.nodes.calm k q;
            here = ap (λ (v : Node). v.slot) at_k ∙ lowest-least m (at b) f.nodes k q all free;
            after = let z = ap (λ (v : Node). v.slot) at_k in omega arith;
            place = ap (λ (v : Node). v.turn) at_k;
            others = λ i d. (ap (λ (v : Node). v.slot) (at_other b k i _ d), ap (λ (v : Node). v.turn) (at_other b k i _ d));
          },
        );
      }
