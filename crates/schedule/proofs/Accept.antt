-- What the checker accepts: a table in which no item shares with a later one, and RAND's own.
use Rattle.std.proofs.Common.{◌≡◌, ℕ, zero, suc, ◌<◌, ◌≤◌, Bool, false, ◌⊎◌, List, length, get_or, take, Ok, Err, Result, sym, ap, ◌∙◌, subst, inl, inr, arith, get_or-take}
use Rattle.std.proofs.lemmas.Bool.{both_ways, cases_order, cases_lt}
use Rattle.marks.specs.Below.{max_below}
use Rattle.marks.proofs.Below.{max_above, max_le}
use Rattle.refusal.specs.Entry.{entry}
use Rattle.refusal.specs.declared.Refusal.{Refusal}
use Rattle.refusal.proofs.Why.{Why-cases}
use Rattle.schedule.specs.declared.checking.Verdict.{Verdict}
use Rattle.schedule.specs.declared.checking.Verdict.TheVariants.{Accepted, Clash}
use Rattle.schedule.specs.Rand.{IsRand}
use Rattle.schedule.specs.Order.{entries}
use Rattle.schedule.specs.Sharing.{Shares, Alone, Clear, Largest, Checked}
use Rattle.schedule.proofs.Rand.{rand_clean}

pub clear_alone : (clash : ℕ → ℕ → Bool) (n : ℕ) → ((a b : ℕ) → clash a b ≡ clash b a) → ((a : ℕ) → clash a a ≡ false)
    → (slots : List ℕ) (m : ℕ) → m ≡ n → ((x : ℕ) → x < n → Alone clash slots x m) → Clear clash n slots
clear_alone clash n swap apart slots m e alone x y lx ly s = go (cases_order x y)
  where
    turned : Shares clash slots y x
    turned = record {
      placed = subst (λ (v : ℕ). 0 < v) (sym s.same) s.placed;
      same = sym s.same;
      clashing = swap y x ∙ s.clashing;
    }

    go : (x ≡ y) ⊎ ((x < y) ⊎ (y < x)) → ⊥
    go (inl d) = both_ways (clash x y) (ap (clash x) (sym d) ∙ apart x) s.clashing
    go (inr (inl l)) = alone x lx y l (omega arith) s
    go (inr (inr l)) = alone y ly x l (omega arith) turned

pub largest_same : (m n : ℕ) (slots : List ℕ) (v : ℕ) → m ≡ n → Largest m slots v → Largest n slots v
largest_same m n slots v e l = subst (λ (k : ℕ). Largest k slots v) e l

-- what holds of a table's first entries holds of the table
pub clear_part : (clash : ℕ → ℕ → Bool) (n m : ℕ) (slots : List ℕ) → n ≤ m → Clear clash n (take m slots) → Clear clash n slots
clear_part clash n m slots l clear x y lx ly s =
    clear x y lx ly
    (record {
      placed = subst (λ (v : ℕ). 0 < v) (sym (get_or-take m slots x 0 (omega arith))) s.placed;
      same = get_or-take m slots y 0 (omega arith) ∙ s.same ∙ sym (get_or-take m slots x 0 (omega arith));
      clashing = s.clashing;
    })

pub largest_part : (n m : ℕ) (slots : List ℕ) (v : ℕ) → n ≤ m → Largest n (take m slots) v → Largest n slots v
largest_part n m slots v l h = record {
  above = λ k q. let e = get_or-take m slots k 0 (omega arith) in let a = h.above k q in omega arith;
  there = go h.there;
}
  where
    go : (v ≡ 0) ⊎ ((k : ℕ) × (k < n) × (get_or (take m slots) k 0 ≡ v)) → (v ≡ 0) ⊎ ((k : ℕ) × (k < n) × (get_or slots k 0 ≡ v))
    go (inl e) = inl e
    go (inr (k, q, e)) = inr (k, q, sym (get_or-take m slots k 0 (omega arith)) ∙ e)

-- every table has a largest slot
some_largest : (n : ℕ) (slots : List ℕ) → (v : ℕ) × Largest n slots v
some_largest zero slots = (0, record { above = λ k l. absurd (let z : ⊥ = omega arith in z); there = inl (let e : 0 ≡ 0 = omega arith in e) })
some_largest (suc n) slots = let (v, l) = some_largest n slots in go v l (cases_lt v (get_or slots n 0))
  where
    go : (v : ℕ) → Largest n slots v → (v < get_or slots n 0) ⊎ (get_or slots n 0 ≤ v) → (w : ℕ) × Largest (suc n) slots w
    go v l (inl h) = (get_or slots n 0, record { above = λ k q. at k q (cases_order k n); there = inr (n, omega arith, let e : get_or slots n 0 ≡ get_or slots n 0 = omega arith in e) })
      where
        at : (k : ℕ) → k < suc n → (k ≡ n) ⊎ ((k < n) ⊎ (n < k)) → get_or slots k 0 ≤ get_or slots n 0
        at k q (inl e) = let d = ap (λ (i : ℕ). get_or slots i 0) e in omega arith
        at k q (inr (inl p)) = let d = l.above k p in omega arith
        at k q (inr (inr p)) = absurd (let z : ⊥ = omega arith in z)
    go v l (inr h) = (v, record { above = λ k q. at k q (cases_order k n); there = there l.there })
      where
        at : (k : ℕ) → k < suc n → (k ≡ n) ⊎ ((k < n) ⊎ (n < k)) → get_or slots k 0 ≤ v
        at k q (inl e) = let d = ap (λ (i : ℕ). get_or slots i 0) e in omega arith
        at k q (inr (inl p)) = l.above k p
        at k q (inr (inr p)) = absurd (let z : ⊥ = omega arith in z)

        there : (v ≡ 0) ⊎ ((k : ℕ) × (k < n) × (get_or slots k 0 ≡ v)) → (v ≡ 0) ⊎ ((k : ℕ) × (k < suc n) × (get_or slots k 0 ≡ v))
        there (inl e) = inl e
        there (inr (k, p, e)) = inr (k, omega arith, e)

-- RAND's slots are accepted
pub rand_accepted : (clash : ℕ → ℕ → Bool) (n : ℕ) → ((a b : ℕ) → clash a b ≡ clash b a) → ((a : ℕ) → clash a a ≡ false)
    → (order slots : List ℕ) → n ≤ length slots → IsRand clash n order (entries slots) → (m : ℕ) × Checked clash n slots (Ok (Accepted m))
rand_accepted clash n swap apart order slots long is =
    let (m, l) = some_largest n slots in
    (m, (long, ((λ x y lx ly s. rand_clean clash n order (entries slots) is swap apart x y lx ly s.clashing s.placed (sym s.same)), l)))

-- the largest slot is the maximum
pub largest_is : (n : ℕ) (slots : List ℕ) (v : ℕ) → Largest n slots v → v ≡ max_below (entries slots) n
largest_is n slots v l = let a = max_le (entries slots) n v l.above in let b = go l.there in omega arith
  where
    go : (v ≡ 0) ⊎ ((k : ℕ) × (k < n) × (get_or slots k 0 ≡ v)) → v ≤ max_below (entries slots) n
    go (inl e) = omega arith
    go (inr (k, h, e)) = let m = max_above (entries slots) n k h in omega arith

-- a table that is accepted has no other answer
pub checked_only : (clash : ℕ → ℕ → Bool) (n : ℕ) (slots : List ℕ) (m : ℕ) → Checked clash n slots (Ok (Accepted m))
    → (r : Result Verdict Refusal) → Checked clash n slots r → r ≡ Ok (Accepted (max_below (entries slots) n))
checked_only clash n slots m a (Ok (Accepted v)) (h, (c, l)) = ap (λ (x : ℕ). Ok (Accepted x)) (largest_is n slots v l)
checked_only clash n slots m a (Ok (Clash pair)) (h, p) =
    absurd (let i = p.after in let j = p.inside in a.1.0 pair.0 pair.1 (omega arith) p.inside p.shares)
checked_only clash n slots m a (Err e) h =
    absurd (let l = a.0 in elim (Why-cases (entry e).number 1 (length slots < n) ⊥ h) [ inl q ↦ omega arith | inr q ↦ q ])
