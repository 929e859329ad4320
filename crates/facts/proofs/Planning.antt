-- The plan of a path of four nodes, computed.
use Rattle.std.proofs.Common.{◌≡◌, ℕ, zero, suc, ◌<◌, ◌≤◌, List, [], ◌∷◌, length, get_or, Ok, Err, Result, refl, ap, ◌∙◌, subst, inl, inr, arith}
use Rattle.std.proofs.lemmas.List.{ext_get_or}
use Rattle.marks.specs.Below.{some_below}
use Rattle.refusal.specs.Entry.{entry as told}
use Rattle.refusal.specs.declared.Refusal.{Refusal}
use Rattle.refusal.proofs.Why.{Why-cases}
use Rattle.map.specs.View.{Net, net, nodes, contend}
use Rattle.map.specs.declared.Map.{Map}
use Rattle.schedule.specs.Rand.{first_from, least, from, rand}
use Rattle.schedule.specs.Order.{Disordered, Planned}
use Rattle.benches.specs.Paths.{path}
use Rattle.facts.proofs.Nets.{contend_of}

abbrev pub order : List ℕ
order = 0 ∷ 3 ∷ 1 ∷ 2 ∷ []

-- and RAND's slots for it
abbrev pub slots : List ℕ
slots = 1 ∷ 2 ∷ 3 ∷ 1 ∷ []

-- an entry of the order does not stand at an earlier place
once : (i : ℕ) → i < 4 → (j : ℕ) → j < i → get_or order j 0 ≡ get_or order i 0 → ⊥
once i l j h e = grind arith

below : (i : ℕ) → i < 4 → get_or order i 0 < 4
below i l = grind arith

well_ordered : (number : ℕ) → Disordered 4 order number → ⊥
well_ordered number h = grind (arith, Why-cases, below, once)

rands : (k : ℕ) → k < 4 → rand (contend_of (path 4)) 4 order k ≡ get_or slots k 0
unfolding some_below first_from least from
rands zero l = refl
rands (suc zero) l = refl
rands (suc (suc zero)) l = refl
rands (suc (suc (suc zero))) l = refl
rands (suc (suc (suc (suc k)))) l = omega arith

pub plan_is : (m : Map) (before after : List ℕ) (r : Result (Unit {0}) Refusal) → net m ≡ path 4 → length before ≡ 4 → length after ≡ 4
    → Planned (contend m) (nodes m) order before after r → (r ≡ Ok tt) × (after ≡ slots)
plan_is m before after r e long full p = go r (subst (λ (n : Net). Planned (contend_of n) n.size order before after r) e p)
  where
    go : (x : Result (Unit {0}) Refusal) → Planned (contend_of (path 4)) 4 order before after x → (x ≡ Ok tt) × (after ≡ slots)
    go (Ok tt) h = (refl, ext_get_or 0 after slots full (λ k l. let inside : k < 4 = omega arith in h.2 k inside ∙ rands k inside))
    go (Err x) h =
        absurd (elim (Why-cases (told x).number 1 (length before < 4) ((4 ≤ length before) × Disordered 4 order (told x).number) h.1) [
          | inl q ↦ omega arith
          | inr q ↦ well_ordered (told x).number q.1
        ])

pub rand_is : (m : Map) → net m ≡ path 4
    → (rand (contend m) (nodes m) order 0 ≡ 1) × (rand (contend m) (nodes m) order 1 ≡ 2) × (rand (contend m) (nodes m) order 2 ≡ 3) × (rand (contend m) (nodes m) order 3 ≡ 1)
rand_is m e = (is 0 (omega arith), is 1 (omega arith), is 2 (omega arith), is 3 (omega arith))
  where
    is : (k : ℕ) → k < 4 → rand (contend m) (nodes m) order k ≡ get_or slots k 0
    is k l = ap (λ (n : Net). rand (contend_of n) n.size order k) e ∙ rands k l
