-- The table as the planner fills it.
use Rattle.std.proofs.Common.{◌≡◌, ℕ, ◌+◌, ◌-◌, ◌<◌, ◌≤◌, Bool, ◌⊎◌, List, [], ◌∷◌, ◌++◌, length, get_or, take, drop, set, replicate, Ok, Err, Result, sym, ap, ◌∙◌, ap₂, inl, inr, arith, get_or-set_other, get_or-set_same}
use Rattle.std.proofs.lemmas.List.{take_more, length-set, length-take-le, length-replicate, get_or-replicate, get_or-append_right, get_or-drop}
use Rattle.std.proofs.lemmas.Bool.{cases_eq}
use Rattle.schedule.specs.Rand.{least, rand, Fine, IsRand}
use Rattle.refusal.specs.Entry.{entry, Why}
use Rattle.refusal.specs.declared.Refusal.{Refusal}
use Rattle.refusal.proofs.Why.{Why-cases}
use Rattle.schedule.specs.declared.checking.Verdict.TheVariants.{Accepted}
use Rattle.schedule.specs.Order.{entries, NoItem, NamedTwice, Disordered, Planned, Sound}
use Rattle.schedule.specs.Sharing.{Checked}
use Rattle.schedule.proofs.Slots.{least_like}
use Rattle.schedule.proofs.Rand.{rand_none, rand_push_same, rand_push_other, rand_like}

module _ (clash : ℕ → ℕ → Bool) (n : ℕ) (order slots : List ℕ) where
  -- one item of the order more
  pub table_more : (i s : ℕ) → i < length order → get_or order i 0 < length slots
      → s ≡ least clash n (entries slots) (get_or order i 0)
      → ((k : ℕ) → k < n → get_or slots k 0 ≡ rand clash n (take i order) k)
      → (k : ℕ) → k < n → get_or (set slots (get_or order i 0) s) k 0 ≡ rand clash n (take (i + 1) order) k
  table_more i s l la es ih k lk = go (cases_eq k (get_or order i 0)) ∙ ap (λ (xs : List ℕ). rand clash n xs k) (sym (take_more order i 0 l))
    where
      go : (k ≡ get_or order i 0) ⊎ (k ≡ get_or order i 0 → ⊥) → get_or (set slots (get_or order i 0) s) k 0 ≡ rand clash n (take i order ++ (get_or order i 0 ∷ [])) k
      go (inl d) =
          ap (λ (x : ℕ). get_or (set slots (get_or order i 0) s) x 0) d ∙ get_or-set_same slots (get_or order i 0) s 0 la ∙ es
          ∙ least_like clash n (entries slots) (rand clash n (take i order)) ih (get_or order i 0)
          ∙ sym (rand_push_same clash n (take i order) (get_or order i 0)) ∙ ap (rand clash n (take i order ++ (get_or order i 0 ∷ []))) (sym d)
      go (inr d) = get_or-set_other slots (get_or order i 0) k s 0 d ∙ ih k lk ∙ sym (rand_push_other clash n (take i order) (get_or order i 0) k d)

  -- the same of a table as long as the items, with the slot that the planner picks
  pub table_turn : Fine n order → (i a s : ℕ) → i < length order → length slots ≡ n → a ≡ get_or order i 0
      → s ≡ least clash (length slots) (entries slots) a
      → ((k : ℕ) → k < n → get_or slots k 0 ≡ rand clash n (take i order) k)
      → (length (set slots a s) ≡ n) × ((k : ℕ) → k < n → get_or (set slots a s) k 0 ≡ rand clash n (take (i + 1) order) k)
  table_turn fine i a s l e d es ih = (
    length-set slots a s ∙ e,
    λ k lk. ap (λ (x : ℕ). get_or (set slots x s) k 0) d
        ∙ table_more i s l (let h = (fine i l).0 in omega arith) (es ∙ ap₂ (λ (x y : ℕ). least clash x (entries slots) y) e d) ih k lk,
  )

  -- a table with RAND's slots has the relation
  pub table_is : Fine n order → ((k : ℕ) → k < n → get_or slots k 0 ≡ rand clash n order k) → IsRand clash n order (entries slots)
  table_is = rand_like clash n order (entries slots)

-- the items' part of a table cleared, and put back before the rest
module _ (n : ℕ) (slots : List ℕ) (long : n ≤ length slots) where
  pub cleared : (clash : ℕ → ℕ → Bool) (table : List ℕ) → table ≡ replicate (length (take n slots)) 0
      → (length table ≡ n) × ((k : ℕ) → k < n → get_or table k 0 ≡ rand clash n [] k)
  cleared clash table e =
      let l = length-take-le n slots long in (
        ap length e ∙ length-replicate (length (take n slots)) 0 ∙ l,
        λ k h. ap (λ (xs : List ℕ). get_or xs k 0) e ∙ get_or-replicate (length (take n slots)) k 0 0 (omega arith) ∙ sym (rand_none clash n k),
      )

  pub put_back : (table : List ℕ) → length table ≡ n → (k : ℕ) → n ≤ k → get_or (table ++ drop n slots) k 0 ≡ get_or slots k 0
  put_back table e k l =
      get_or-append_right table (drop n slots) n k 0 e l ∙ get_or-drop n slots (k - n) 0 ∙ ap (λ (i : ℕ). get_or slots i 0) (let q : n + (k - n) ≡ k = omega arith in q)

-- an order that is fine, and a table that is long enough, are not refused

module _ (clash : ℕ → ℕ → Bool) (n : ℕ) (order before after : List ℕ) (long : n ≤ length before) (fine : Fine n order) where
  pub well_ordered : (number : ℕ) → Disordered n order number → ⊥
  well_ordered number h = elim (Why-cases number 3 (NoItem n order) (Why number 5 (NamedTwice n order) ⊥) h) [
    | inl (i, l, _, q) ↦ let f = (fine i l).0 in omega arith
    | inr k ↦ elim (Why-cases number 5 (NamedTwice n order) ⊥ k) [ inl (i, l, _, _, r) ↦ (fine i l).1 r | inr z ↦ z ]
  ]

  pub planned_fine : (r : Result (Unit {0}) Refusal) → Planned clash n order before after r → Sound clash n order after r
      → ((k : ℕ) → k < n → get_or after k 0 ≡ rand clash n order k) × ((m : ℕ) × Checked clash n after (Ok (Accepted m))) × ((k : ℕ) → n ≤ k → get_or after k 0 ≡ get_or before k 0)
  planned_fine (Ok _) p s = (p.2, s.1, p.3)
  planned_fine (Err e) p s =
      absurd (elim (Why-cases (entry e).number 1 (length before < n) ((n ≤ length before) × Disordered n order (entry e).number) p.1) [
        | inl q ↦ omega arith
        | inr q ↦ well_ordered (entry e).number q.1
      ])
