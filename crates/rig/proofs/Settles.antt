-- The smallest slot that is not taken, and what deciding makes.
use Rattle.std.proofs.Common.{◌≡◌, ℕ, zero, suc, ◌+◌, ◌<◌, Bool, true, false, cond, ltb, sym, ap, ◌∙◌, ap₂, add-one, arith}
use Rattle.std.proofs.lemmas.Bool.{cond-true, cond-false, lt-ltb, le-ltb}
use Rattle.marks.specs.declared.Marks.{Marks}
use Rattle.marks.specs.View.{marked}
use Rattle.map.specs.View.{nodes}
use Rattle.radio.specs.Ways.{Ways, puts}
use Rattle.schedule.specs.Rand.{first_from}
use Rattle.schedule.proofs.Slots.{first_is}
use Rattle.rig.specs.declared.Rig.{Rig}
use Rattle.rig.specs.Calm.{at}
use Rattle.rig.specs.Board.{put, decided_count}
use Rattle.rig.specs.Made.{Made}
use Rattle.rig.specs.Steps.{lowest, decided, release, to_all, gave_up, fail_all, settled, settled_sent}

pub lowest_is : (s : Marks) (i : ℕ) → i < 64 → marked s i ≡ false → ((j : ℕ) → j < i → marked s j ≡ true) → lowest s ≡ i
unfolding lowest
lowest_is s i l e f = sym (first_is (marked s) 0 i 64 (λ t _ h. f t h) e (omega arith) (omega arith))

first_all : (p : ℕ → Bool) (s k : ℕ) → ((t : ℕ) → t < s + k → p t ≡ true) → first_from p s k ≡ s + k
unfolding first_from
first_all p s zero h = omega arith
first_all p s (suc k) h =
    ap (λ (b : Bool). cond b (first_from p (suc s) k) s) (h s (omega arith)) ∙ first_all p (suc s) k (λ t l. h t (omega arith)) ∙ (let e : suc s + k ≡ s + suc k = omega arith in e)

pub lowest-none : (s : Marks) → ((j : ℕ) → j < 64 → marked s j ≡ true) → lowest s ≡ 64
unfolding lowest
lowest-none s h = first_all (marked s) 0 64 (λ t l. h t (omega arith))

module _ {S : Type 0} (w : Ways S) (rig rig' : Rig) (s s' : S) (k : ℕ) where
  pub settle_some : (i turn : ℕ) → i < 64 → lowest (at rig.nodes k).taken ≡ i → turn ≡ decided_count (nodes rig.map) rig.nodes
      → rig'.map ≡ rig.map → rig'.nodes ≡ put rig.nodes k (decided (at rig.nodes k) (i + 1) (turn + 1))
      → s' ≡ puts w s (to_all rig.map k (release (i + 1) (at rig.nodes k).round k))
      → Made w rig rig' s s' (settled rig.map rig.nodes k) (settled_sent rig.map rig.nodes k)
  settle_some i turn l e t em en es =
      let test : ltb (lowest (at rig.nodes k).taken) 64 ≡ true = lt-ltb _ _ (omega arith) in
      let slot : i + 1 ≡ suc (lowest (at rig.nodes k).taken) = add-one i ∙ ap suc (sym e) in
      record {
        map = em;
        nodes = en
            ∙ ap₂ (λ (x y : ℕ). put rig.nodes k (decided (at rig.nodes k) x y)) slot (add-one turn ∙ ap suc t)
            ∙ sym (cond-true (ltb (lowest (at rig.nodes k).taken) 64) _ (gave_up rig.map rig.nodes k) test);
        radio = es
            ∙ ap (λ (x : ℕ). puts w s (to_all rig.map k (release x (at rig.nodes k).round k))) slot
            ∙ ap (puts w s) (sym (cond-true (ltb (lowest (at rig.nodes k).taken) 64) _ (fail_all rig.map rig.nodes k) test));
      }

  pub settle_none : lowest (at rig.nodes k).taken ≡ 64 → Made w rig rig' s s' (gave_up rig.map rig.nodes k) (fail_all rig.map rig.nodes k)
      → Made w rig rig' s s' (settled rig.map rig.nodes k) (settled_sent rig.map rig.nodes k)
  settle_none e h =
      let test : ltb (lowest (at rig.nodes k).taken) 64 ≡ false = le-ltb _ _ (omega arith) in
      record {
        map = h.map;
        nodes = h.nodes ∙ sym (cond-false (ltb (lowest (at rig.nodes k).taken) 64) _ (gave_up rig.map rig.nodes k) test);
        radio = h.radio ∙ ap (puts w s) (sym (cond-false (ltb (lowest (at rig.nodes k).taken) 64) _ (fail_all rig.map rig.nodes k) test));
      }
