-- Nodes settled one after the other: none, one more, and all of them.
use Rattle.std.proofs.Common.{◌≡◌, ℕ, zero, suc, ◌+◌, ◌*◌, ◌<◌, ◌≤◌, Bool, true, false, cond, eqb, List, [], ◌∷◌, ◌++◌, length, get_or, take, sym, ap, ◌∙◌, subst, inl, ⊎_elim, arith}
use Rattle.std.proofs.lemmas.List.{length-take-le, get_or-take}
use Rattle.std.proofs.lemmas.Bool.{eq-eqb, ne_eqb, cond-true, cond-false}
use Rattle.marks.specs.Below.{sum_below}
use Rattle.marks.proofs.Below.{sum_like, sum_le}
use Rattle.map.specs.View.{nodes, degree, link_count}
use Rattle.map.specs.declared.Map.{Map}
use Rattle.map.proofs.Counts.{twice_links, degree_le}
use Rattle.schedule.specs.Rand.{Fine, Named}
use Rattle.radio.specs.Ways.{Ways, AirRule}
use Rattle.rig.specs.declared.node.Node.{Node}
use Rattle.rig.specs.declared.node.Phase.TheVariants.{Release}
use Rattle.rig.specs.Calm.{at}
use Rattle.rig.specs.Board.{Board, new_board}
use Rattle.rig.proofs.Calms.{at-blank}
use Rattle.law.specs.Runs.{none}
use Rattle.law.specs.Law.{SlotLaw}
use Rattle.law.proofs.Law.{every_run}
use Rattle.drive.specs.Drive.{Drives, episode_calls, episode_answers}
use Rattle.drive.specs.Settling.{Resting, Settling, Settled}
use Rattle.drive.proofs.Going.{calls_then}
use Rattle.drive.proofs.Hits.{sum_none, sum_at}

-- none

pub settled_none : {S : Type 0} (w : Ways S) (m : Map) (b : Board) (s : S) → b ≡ new_board → w.air s ≡ [] → Settled w m [] b s 0
settled_none w m b s new empty = subst (λ (c : Board). Settled w m [] c s 0) (sym new) (record {
  calls = [];
  answers = [];
  drives = Drives.none;
  run = record { start = s; empty = empty; made = none };
  rests = λ k. inl (ap (λ (v : Node). v.phase) (at-blank 64 k), ap (λ (v : Node). v.slot) (at-blank 64 k), ap (λ (v : Node). v.round) (at-blank 64 k));
  empty = empty;
  counted = sym (sum_none (λ k. cond (eqb (at new_board k).slot 0) 0 (3 * degree m k)) (nodes m) (λ k _. cond-true (eqb (at new_board k).slot 0) 0 (3 * degree m k) (eq-eqb (at new_board k).slot 0 (ap (λ (v : Node). v.slot) (at-blank 64 k)))));
})

-- one more

pub resting : {S : Type 0} (w : Ways S) (m : Map) (order : List ℕ) (b : Board) (s : S) (count : ℕ) → Settled w m order b s count → Resting w m b s
resting w m order b s count h = record { calls = h.calls; answers = h.answers; order = order; run = h.run; rests = h.rests; empty = h.empty }

pub settled_more : {S : Type 0} (w : Ways S) (m : Map) (order : List ℕ) (a : ℕ) (b b' : Board) (s s' : S) (count n : ℕ) → a < nodes m → (at b a).slot ≡ 0
    → Settled w m order b s count → Settling w m a b b' s s' n → Settled w m (order ++ (a ∷ [])) b' s' (count + n)
settled_more w m order a b b' s s' count n in_a open-a h k = record {
  calls = h.calls ++ episode_calls a k.kinds;
  answers = h.answers ++ episode_answers k.won k.kinds;
  drives = subst (λ (x : ℕ). Drives (order ++ (a ∷ [])) (h.calls ++ episode_calls a k.kinds) (h.answers ++ episode_answers k.won k.kinds) (count + x)) k.long (Drives.more h.drives a k.won k.kinds);
  run = record { start = h.run.start; empty = h.run.empty; made = calls_then h.run.made k.made };
  rests = k.rests;
  empty = k.empty;
  counted =
      let e = sum_at (λ i. cond (eqb (at b i).slot 0) 0 (3 * degree m i)) (λ i. cond (eqb (at b' i).slot 0) 0 (3 * degree m i)) (nodes m) a (3 * degree m a) in_a here (λ i d. ap (λ (x : ℕ). cond (eqb x 0) 0 (3 * degree m i)) (k.others i d)) in
      let c = h.counted in
      let t = k.thrice in
      omega arith;
}
  where
    here : cond (eqb (at b' a).slot 0) 0 (3 * degree m a) ≡ cond (eqb (at b a).slot 0) 0 (3 * degree m a) + 3 * degree m a
    here =
        let x = cond-true (eqb (at b a).slot 0) 0 (3 * degree m a) (eq-eqb (at b a).slot 0 open-a) in
        let y = cond-false (eqb (at b' a).slot 0) 0 (3 * degree m a) (ne_eqb (at b' a).slot 0 (λ e. let l = k.decided in let u : ⊥ = omega arith in u)) in
        omega arith

module _ {S : Type 0} (w : Ways S) (rule : AirRule w) (m : Map) (order : List ℕ) (b : Board) (s : S) (count : ℕ) where
  pub settled_law : Settled w m order b s count → SlotLaw m order b
  settled_law h = (every_run w rule m b s h.calls h.answers order h.run).0

-- the node that an order names next has not decided
pub next_open : {S : Type 0} (w : Ways S) → AirRule w → (m : Map) (order : List ℕ) → Fine (nodes m) order → (i : ℕ) → i < length order → (b : Board) (s : S) (count : ℕ)
    → Settled w m (take i order) b s count → (at b (get_or order i 0)).slot ≡ 0
next_open w rule m order fine i l b s count h =
    (settled_law w rule m (take i order) b s count h).undecided (get_or order i 0) (fine i l).0 (λ (j, q, e).
    let k = length-take-le i order (omega arith) in
    (fine i l).1 (j, omega arith, sym (get_or-take i order j 0 (omega arith)) ∙ e))

-- three for each of 64 neighbours of 64 nodes
pub few_came : {S : Type 0} (w : Ways S) (m : Map) (order : List ℕ) (b : Board) (s : S) (count : ℕ) → Settled w m order b s count → count ≤ 12288
few_came w m order b s count h =
    let c = h.counted in
    let l = sum_le (λ k. cond (eqb (at b k).slot 0) 0 (3 * degree m k)) 192 (nodes m) (λ k _. at_most k (eqb (at b k).slot 0)) in
    let n = m.most in
    omega arith
  where
    at_most : (k : ℕ) (v : Bool) → cond v 0 (3 * degree m k) ≤ 192
    at_most k true = omega arith
    at_most k false = let d = degree_le m k in omega arith

-- all

sum_three : (f : ℕ → ℕ) (n : ℕ) → sum_below (λ k. 3 * f k) n ≡ 3 * sum_below f n
unfolding sum_below
sum_three f zero = omega arith
sum_three f (suc n) = let e = sum_three f n in omega arith

module _ {S : Type 0} (w : Ways S) (m : Map) (order : List ℕ) (b : Board) (s : S) (count : ℕ) (h : Settled w m order b s count) (law : SlotLaw m order b) (all : (k : ℕ) → k < nodes m → Named order k) where
  decided : (k : ℕ) → k < nodes m → (at b k).slot ≡ 0 → ⊥
  decided k l = law.decided k l (all k l)

  pub all_release : (k : ℕ) → k < nodes m → (at b k).phase ≡ Release
  all_release k l = ⊎_elim (λ (_, z, _). absurd (decided k l z)) (λ (p, _). p) (h.rests k)

  pub six_each : count ≡ 6 * link_count m
  six_each =
      let c = h.counted in
      let e = sum_like (λ k. cond (eqb (at b k).slot 0) 0 (3 * degree m k)) (λ k. 3 * degree m k) (nodes m) (λ k l. cond-false (eqb (at b k).slot 0) 0 (3 * degree m k) (ne_eqb (at b k).slot 0 (decided k l))) in
      let t = sum_three (degree m) (nodes m) in
      let d = twice_links m in
      omega arith
