-- RAND's steps and RAND's relation agree, the relation has one solution, and what follows for every rule.
use Rattle.std.proofs.Common.{◌≡◌, ℕ, zero, suc, ◌+◌, ◌<◌, ◌≤◌, Bool, true, false, ◌&&◌, eqb, ◌⊎◌, List, [], ◌∷◌, ◌++◌, length, get_or, take, sym, refl, ap, ◌∙◌, subst, inl, inr, arith}
use Rattle.std.proofs.lemmas.List.{take_more, take_all}
use Rattle.std.proofs.lemmas.Bool.{both_ways, eq-eqb, ne_eqb, eqb-true, cases_eq, cases_order, and_parts, and_from, cond-true, cond-false}
use Rattle.marks.specs.Below.{some_below}
use Rattle.schedule.specs.Rand.{holds, least, put, from, rand, Fine, Named, Held, Smallest, IsRand, RandLaw, ahead}
use Rattle.schedule.proofs.Slots.{some_find, some_at, crowd, least_free, least_below, least_slot}

-- places in an order

pub find_place : (order : List ℕ) (k : ℕ) → Named order k ⊎ (Named order k → ⊥)
find_place [] k = inr (λ (j, l, e). omega arith)
find_place (x ∷ xs) k = go (cases_eq x k) (find_place xs k)
  where
    go : (x ≡ k) ⊎ (x ≡ k → ⊥) → Named xs k ⊎ (Named xs k → ⊥) → Named (x ∷ xs) k ⊎ (Named (x ∷ xs) k → ⊥)
    go (inl e) r = inl (0, omega arith, e)
    go (inr d) (inl (j, l, e)) = inl (suc j, omega arith, e)
    go (inr d) (inr n) = inr (λ (j, l, e). at j l e)
      where
        at : (j : ℕ) → j < length (x ∷ xs) → get_or (x ∷ xs) j 0 ≡ k → ⊥
        at zero l e = d e
        at (suc j) l e = n (j, omega arith, e)

-- an entry of an order stands at one place
pub once : (n : ℕ) (order : List ℕ) → Fine n order → (i j : ℕ) → i < length order → j < length order → get_or order i 0 ≡ get_or order j 0 → i ≡ j
once n order fine i j p q e = go (cases_order i j)
  where
    go : (i ≡ j) ⊎ ((i < j) ⊎ (j < i)) → i ≡ j
    go (inl d) = d
    go (inr (inl l)) = absurd ((fine j q).1 (i, l, e))
    go (inr (inr l)) = absurd ((fine i p).1 (j, l, sym e))

-- appending one item to the order changes only that item

module _ (clash : ℕ → ℕ → Bool) (n : ℕ) where
  from_push : (f : ℕ → ℕ) (xs : List ℕ) (a : ℕ) → from clash n f (xs ++ (a ∷ [])) ≡ put clash n (from clash n f xs) a
  unfolding from
  from_push f [] a = refl
  from_push f (x ∷ xs) a = from_push (put clash n f x) xs a

  pub rand_push : (order : List ℕ) (a k : ℕ) → rand clash n (order ++ (a ∷ [])) k ≡ put clash n (rand clash n order) a k
  rand_push order a k = ap (λ (g : ℕ → ℕ). g k) (from_push (λ _. 0) order a)

  pub rand_push_same : (order : List ℕ) (a : ℕ) → rand clash n (order ++ (a ∷ [])) a ≡ least clash n (rand clash n order) a
  rand_push_same order a = rand_push order a a ∙ cond-true (eqb a a) (least clash n (rand clash n order) a) (rand clash n order a) (eq-eqb a a refl)

  pub rand_push_other : (order : List ℕ) (a k : ℕ) → (k ≡ a → ⊥) → rand clash n (order ++ (a ∷ [])) k ≡ rand clash n order k
  rand_push_other order a k d = rand_push order a k ∙ cond-false (eqb k a) (least clash n (rand clash n order) a) (rand clash n order k) (ne_eqb k a d)

  pub rand_none : (k : ℕ) → rand clash n [] k ≡ 0
  unfolding from
  rand_none k = refl

-- the steps have the relation

module _ (clash : ℕ → ℕ → Bool) (n : ℕ) (order : List ℕ) (fine : Fine n order) where
  upto : ℕ → ℕ → ℕ
  upto i = rand clash n (take i order)

  step_same : (i : ℕ) → i < length order → upto (suc i) (get_or order i 0) ≡ least clash n (upto i) (get_or order i 0)
  unfolding upto
  step_same i l =
      let e : suc i ≡ i + 1 = omega arith in
      ap (λ (x : ℕ). rand clash n (take x order) (get_or order i 0)) e ∙ ap (λ (xs : List ℕ). rand clash n xs (get_or order i 0)) (take_more order i 0 l)
      ∙ rand_push_same clash n (take i order) (get_or order i 0)

  step_other : (i k : ℕ) → i < length order → (k ≡ get_or order i 0 → ⊥) → upto (suc i) k ≡ upto i k
  unfolding upto
  step_other i k l d =
      let e : suc i ≡ i + 1 = omega arith in
      ap (λ (x : ℕ). rand clash n (take x order) k) e ∙ ap (λ (xs : List ℕ). rand clash n xs k) (take_more order i 0 l)
      ∙ rand_push_other clash n (take i order) (get_or order i 0) k d

  -- who has a slot stands at one of the places
  placed : (i : ℕ) → i ≤ length order → (k : ℕ) → 0 < upto i k → (j : ℕ) × (j < i) × (get_or order j 0 ≡ k)
  unfolding upto
  placed zero l k h = absurd (let e : upto 0 k ≡ 0 = start in let z : ⊥ = omega arith in z)
    where
      start : upto 0 k ≡ 0
      start = rand_none clash n k
  placed (suc i) l k h = go (cases_eq k (get_or order i 0)) (λ p. placed i (omega arith) k p)
    where
      go : (k ≡ get_or order i 0) ⊎ (k ≡ get_or order i 0 → ⊥) → (0 < upto i k → (j : ℕ) × (j < i) × (get_or order j 0 ≡ k)) → (j : ℕ) × (j < suc i) × (get_or order j 0 ≡ k)
      go (inl e) ih = (i, omega arith, sym e)
      go (inr d) ih = let s = step_other i k (omega arith) d in let (j, p, e) = ih (omega arith) in (j, omega arith, e)

  -- the slot given at place i is the smallest that no clashing item at an earlier place has
  given : (i : ℕ) → i < length order → Smallest (Held clash order (upto i) i) (least clash n (upto i) (get_or order i 0))
  given i l = record { slot = least_slot clash n f a; free = free; below = below }
    where
      f : ℕ → ℕ
      f = upto i

      a : ℕ
      a = get_or order i 0

      free : Held clash order (upto i) i (least clash n (upto i) (get_or order i 0)) → ⊥
      free (j, p, c, e) =
          let q : get_or order j 0 < n = (fine j (omega arith)).0 in
          both_ways (holds clash n (upto i) (get_or order i 0) (least clash n (upto i) (get_or order i 0))) (least_free clash n (upto i) (get_or order i 0))
          (some_at (λ b. clash (get_or order i 0) b && eqb (upto i b) (least clash n (upto i) (get_or order i 0))) n (get_or order j 0) q
          (and_from _ _ c (eq-eqb (upto i (get_or order j 0)) (least clash n (upto i) (get_or order i 0)) e)))

      below : (t : ℕ) → 1 ≤ t → t < least clash n (upto i) (get_or order i 0) → Held clash order (upto i) i t
      below t p q =
          let (b, lb, h) = some_find (λ b. clash (get_or order i 0) b && eqb (upto i b) t) n (least_below clash n (upto i) (get_or order i 0) t p q) in
          let (c, e) = and_parts (clash (get_or order i 0) b) (eqb (upto i b) t) h in
          let s : upto i b ≡ t = eqb-true (upto i b) t e in
          let (j, lj, d) = placed i (omega arith) b (omega arith) in
          (j, lj, ap (clash (get_or order i 0)) d ∙ c, ap (upto i) d ∙ s)

  -- it stays from then on
  stays : (i : ℕ) → i ≤ length order → (j : ℕ) → j < i → upto i (get_or order j 0) ≡ upto (suc j) (get_or order j 0)
  stays zero l j p = absurd (let z : ⊥ = omega arith in z)
  stays (suc i) l j p = go (cases_eq j i) (λ q. stays i (omega arith) j q)
    where
      go : (j ≡ i) ⊎ (j ≡ i → ⊥) → (j < i → upto i (get_or order j 0) ≡ upto (suc j) (get_or order j 0)) → upto (suc i) (get_or order j 0) ≡ upto (suc j) (get_or order j 0)
      go (inl e) ih = ap (λ (x : ℕ). upto (suc x) (get_or order j 0)) (sym e)
      go (inr d) ih = step_other i (get_or order j 0) l (λ e. d (once n order fine j i (omega arith) l e)) ∙ ih (omega arith)

  all : upto (length order) ≡ rand clash n order
  unfolding upto
  all = ap (rand clash n) (take_all (length order) order (omega arith))

  -- so each place has the slot that it was given, and the earlier ones had theirs by then
  final : (i : ℕ) → i < length order → rand clash n order (get_or order i 0) ≡ least clash n (upto i) (get_or order i 0)
  final i l = ap (λ (g : ℕ → ℕ). g (get_or order i 0)) (sym all) ∙ stays (length order) (omega arith) i l ∙ step_same i l

  earlier : (i j : ℕ) → i < length order → j < i → upto i (get_or order j 0) ≡ rand clash n order (get_or order j 0)
  earlier i j l p =
      stays i (omega arith) j p ∙ sym (stays (length order) (omega arith) j (omega arith)) ∙ ap (λ (g : ℕ → ℕ). g (get_or order j 0)) all

  pub rand_is : IsRand clash n order (rand clash n order)
  rand_is = record { outside = outside; inside = inside }
    where
      outside : (k : ℕ) → k < n → (Named order k → ⊥) → rand clash n order k ≡ 0
      outside k l off = go (rand clash n order k) refl
        where
          go : (s : ℕ) → rand clash n order k ≡ s → rand clash n order k ≡ 0
          go zero e = e
          go (suc s) e =
              let d : upto (length order) k ≡ suc s = ap (λ (g : ℕ → ℕ). g k) all ∙ e in
              absurd (off (placed (length order) (omega arith) k (omega arith)))

      inside : (i : ℕ) → i < length order → Smallest (Held clash order (rand clash n order) i) (rand clash n order (get_or order i 0))
      inside i l =
          let g = given i l in
          let e = final i l in
          record {
            slot = subst (λ (s : ℕ). 1 ≤ s) (sym e) g.slot;
            free = λ (j, p, c, d). g.free (j, p, c, earlier i j l p ∙ d ∙ e);
            below = λ t p q. let (j, lj, c, d) = g.below t p (subst (λ (s : ℕ). t < s) e q) in (j, lj, c, sym (earlier i j l lj) ∙ d);
          }

-- so have slots that are RAND's
pub rand_like : (clash : ℕ → ℕ → Bool) (n : ℕ) (order : List ℕ) (f : ℕ → ℕ) → Fine n order → ((k : ℕ) → k < n → f k ≡ rand clash n order k) → IsRand clash n order f
rand_like clash n order f fine e =
    let r = rand_is clash n order fine in
    record {
      outside = λ k l no. e k l ∙ r.outside k l no;
      inside = λ i l.
          let s = r.inside i l in
          let at = e (get_or order i 0) (fine i l).0 in
          record {
            slot = subst (λ (v : ℕ). 1 ≤ v) (sym at) s.slot;
            free = λ (j, p, c, d). s.free (j, p, c, sym (e (get_or order j 0) (fine j (omega arith)).0) ∙ d ∙ at);
            below = λ t p q.
                let (j, lj, c, d) = s.below t p (subst (λ (v : ℕ). t < v) at q) in
                (j, lj, c, e (get_or order j 0) (fine j (omega arith)).0 ∙ d);
          };
    }

-- the relation has one solution

smallest_is : (P Q : ℕ → Type 0) (s t : ℕ) → ((u : ℕ) → P u → Q u) → ((u : ℕ) → Q u → P u) → Smallest P s → Smallest Q t → s ≡ t
smallest_is P Q s t to back p q = go (cases_order s t)
  where
    go : (s ≡ t) ⊎ ((s < t) ⊎ (t < s)) → s ≡ t
    go (inl e) = e
    go (inr (inl l)) = absurd (p.free (back s (q.below s p.slot l)))
    go (inr (inr l)) = absurd (q.free (to t (p.below t q.slot l)))

module _ (clash : ℕ → ℕ → Bool) (n : ℕ) (order : List ℕ) (f g : ℕ → ℕ) (p : IsRand clash n order f) (q : IsRand clash n order g) where
  same_to : (i : ℕ) → i ≤ length order → (j : ℕ) → j < i → f (get_or order j 0) ≡ g (get_or order j 0)
  same_to zero l j h = absurd (let z : ⊥ = omega arith in z)
  same_to (suc i) l j h = go (cases_eq j i) (λ k r. same_to i (omega arith) k r)
    where
      at : ((k : ℕ) → k < i → f (get_or order k 0) ≡ g (get_or order k 0)) → f (get_or order i 0) ≡ g (get_or order i 0)
      at ih =
          smallest_is (Held clash order f i) (Held clash order g i) (f (get_or order i 0)) (g (get_or order i 0))
          (λ u (k, r, c, e). (k, r, c, sym (ih k r) ∙ e)) (λ u (k, r, c, e). (k, r, c, ih k r ∙ e))
          (p.inside i (omega arith)) (q.inside i (omega arith))

      go : (j ≡ i) ⊎ (j ≡ i → ⊥) → ((k : ℕ) → k < i → f (get_or order k 0) ≡ g (get_or order k 0)) → f (get_or order j 0) ≡ g (get_or order j 0)
      go (inl e) ih = ap (λ (x : ℕ). f (get_or order x 0)) e ∙ at ih ∙ ap (λ (x : ℕ). g (get_or order x 0)) (sym e)
      go (inr d) ih = ih j (omega arith)

  pub one_rand : (k : ℕ) → k < n → f k ≡ g k
  one_rand k l = go (find_place order k)
    where
      go : Named order k ⊎ (Named order k → ⊥) → f k ≡ g k
      go (inl (j, h, e)) = ap f (sym e) ∙ same_to (length order) (omega arith) j h ∙ ap g e
      go (inr off) = p.outside k l off ∙ sym (q.outside k l off)

-- what follows of any slots that have the relation

module _ (clash : ℕ → ℕ → Bool) (n : ℕ) (order : List ℕ) (f : ℕ → ℕ) (p : IsRand clash n order f) where
  -- an item of the order has a slot, and every other none
  pub slot_named : (i : ℕ) → i < length order → 1 ≤ f (get_or order i 0)
  slot_named i l = (p.inside i l).slot

  -- no two clashing items share a slot
  pub rand_clean : ((a b : ℕ) → clash a b ≡ clash b a) → ((a : ℕ) → clash a a ≡ false) → (x y : ℕ) → x < n → y < n → clash x y ≡ true → 0 < f x → f x ≡ f y → ⊥
  rand_clean swap apart x y lx ly c h e = go (find_place order x) (find_place order y)
    where
      meet : (i j : ℕ) → i < length order → j < length order → get_or order i 0 ≡ x → get_or order j 0 ≡ y → (i ≡ j) ⊎ ((i < j) ⊎ (j < i)) → ⊥
      meet i j li lj dx dy (inl d) =
          let s : x ≡ y = sym dx ∙ ap (λ (k : ℕ). get_or order k 0) d ∙ dy in
          both_ways (clash x y) (ap (clash x) (sym s) ∙ apart x) c
      meet i j li lj dx dy (inr (inl l)) =
          (p.inside j lj).free (i, l, ap (λ (v : ℕ). clash v (get_or order i 0)) dy ∙ ap (clash y) dx ∙ swap y x ∙ c, ap f dx ∙ e ∙ ap f (sym dy))
      meet i j li lj dx dy (inr (inr l)) =
          (p.inside i li).free (j, l, ap (λ (v : ℕ). clash v (get_or order j 0)) dx ∙ ap (clash x) dy ∙ c, ap f dy ∙ sym e ∙ ap f (sym dx))

      go : Named order x ⊎ (Named order x → ⊥) → Named order y ⊎ (Named order y → ⊥) → ⊥
      go (inl (i, li, dx)) (inl (j, lj, dy)) = meet i j li lj dx dy (cases_order i j)
      go (inl _) (inr off) = let z = p.outside y ly off in omega arith
      go (inr off) _ = let z = p.outside x lx off in omega arith

  -- an item's slot is at most one more than the clashing items before it
  pub rand_low : (i : ℕ) → i < length order → f (get_or order i 0) ≤ 1 + ahead clash order i
  rand_low i l = go (f (get_or order i 0)) refl
    where
      held : (t : ℕ) → 1 ≤ t → t < f (get_or order i 0) → some_below (λ j. clash (get_or order i 0) (get_or order j 0) && eqb (f (get_or order j 0)) t) i ≡ true
      held t a b =
          let (j, lj, c, e) = (p.inside i l).below t a b in
          some_at (λ j. clash (get_or order i 0) (get_or order j 0) && eqb (f (get_or order j 0)) t) i j lj (and_from _ _ c (eq-eqb (f (get_or order j 0)) t e))

      go : (s : ℕ) → f (get_or order i 0) ≡ s → f (get_or order i 0) ≤ 1 + ahead clash order i
      go zero e = omega arith
      go (suc s) e =
          let c = crowd (λ j. clash (get_or order i 0) (get_or order j 0)) (λ j. f (get_or order j 0)) i s (λ t a b. held t a (omega arith)) in
          omega arith

pub rand_law : (clash : ℕ → ℕ → Bool) (n : ℕ) → ((a b : ℕ) → clash a b ≡ clash b a) → ((a : ℕ) → clash a a ≡ false) → RandLaw clash n
rand_law clash n swap apart = record {
  agrees = λ order fine. rand_is clash n order fine;
  only = λ order f fine p. one_rand clash n order f (rand clash n order) p (rand_is clash n order fine);
  clean = λ order fine i j l m c e.
      let p = rand_is clash n order fine in
      rand_clean clash n order (rand clash n order) p swap apart (get_or order i 0) (get_or order j 0) (fine i l).0 (fine j m).0 c (slot_named clash n order (rand clash n order) p i l) e;
  low = λ order fine i l. rand_low clash n order (rand clash n order) (rand_is clash n order fine) i l;
  appended = rand_push_other clash n;
}
