-- Slots that are held and slots that are free: the smallest free slot, and as many items as slots held.
use Rattle.std.proofs.Common.{◌≡◌, ℕ, zero, suc, ◌+◌, ◌<◌, ◌≤◌, Bool, true, false, cond, ◌&&◌, ◌||◌, eqb, ◌⊎◌, Some, None, Option, sym, refl, ap, ◌∙◌, ap₂, inl, inr, ⊎_elim, arith}
use Rattle.std.specs.Option.{MatchOption, unwrap_or}
use Rattle.std.proofs.lemmas.Bool.{ne_eqb, cases_eq, cases_Bool}
use Rattle.marks.specs.Below.{some_below, sum_below, count_below}
use Rattle.marks.proofs.Below.{some_decides, count_le}
use Rattle.schedule.specs.Rand.{first_from, holds, least}

-- some number below a bound

same : (b : Bool) → (b ≡ true → b ≡ true) × (b ≡ true → b ≡ true)
same b = ((λ e. e), (λ e. e))

pub some_find : (p : ℕ → Bool) (n : ℕ) → some_below p n ≡ true → (k : ℕ) × (k < n) × (p k ≡ true)
some_find p n = (some_decides p (λ k. p k ≡ true) (λ k. same (p k)) n).0

pub some_at : (p : ℕ → Bool) (n k : ℕ) → k < n → p k ≡ true → some_below p n ≡ true
some_at p n k l t = (some_decides p (λ k. p k ≡ true) (λ k. same (p k)) n).1 (k, l, t)

pub some_none : (p : ℕ → Bool) (n : ℕ) → ((k : ℕ) → k < n → p k ≡ false) → some_below p n ≡ false
unfolding some_below
some_none p zero f = refl
some_none p (suc n) f = ap₂ (λ (x y : Bool). x || y) (f n (omega arith)) (some_none p n (λ k l. f k (omega arith)))

pub some_like : (p q : ℕ → Bool) (n : ℕ) → ((k : ℕ) → k < n → p k ≡ q k) → some_below p n ≡ some_below q n
unfolding some_below
some_like p q zero f = refl
some_like p q (suc n) f = ap₂ (λ (x y : Bool). x || y) (f n (omega arith)) (some_like p q n (λ k l. f k (omega arith)))

-- pigeonholes

or_adds : (x y : Bool) → cond (x || y) 1 0 ≤ cond x 1 0 + cond y 1 0
or_adds true true = omega arith
or_adds true false = omega arith
or_adds false true = omega arith
or_adds false false = omega arith

count_or : (p q : ℕ → Bool) (m : ℕ) → count_below (λ k. p k || q k) m ≤ count_below p m + count_below q m
unfolding sum_below
count_or p q zero = omega arith
count_or p q (suc m) = omega (arith, count_or p q m, or_adds (p m) (q m))

pub count_none : (p : ℕ → Bool) (m : ℕ) → ((k : ℕ) → k < m → p k ≡ false) → count_below p m ≡ 0
unfolding sum_below
count_none p zero f = refl
count_none p (suc m) f = ap₂ (λ (x : ℕ) (y : Bool). x + cond y 1 0) (count_none p m (λ k l. f k (omega arith))) (f m (omega arith))

count_all : (p : ℕ → Bool) (m : ℕ) → ((k : ℕ) → k < m → p k ≡ true) → count_below p m ≡ m
unfolding sum_below
count_all p zero f = refl
count_all p (suc m) f =
    ap₂ (λ (x : ℕ) (y : Bool). x + cond y 1 0) (count_all p m (λ k l. f k (omega arith))) (f m (omega arith)) ∙ (let e : m + 1 ≡ suc m = omega arith in e)

-- an item holds one slot at most
count_one : (x : Bool) (y m : ℕ) → count_below (λ k. x && eqb y (suc k)) m ≤ cond x 1 0
unfolding sum_below
count_one false y m = let z = count_none (λ k. false) m (λ k l. refl) in omega arith
count_one true y zero = omega arith
count_one true y (suc m) = go (count_one true y m) (cases_eq y (suc m))
  where
    small : (b : Bool) → cond b 1 0 ≤ 1
    small true = omega arith
    small false = omega arith

    go : count_below (λ k. eqb y (suc k)) m ≤ 1 → (y ≡ suc m) ⊎ (y ≡ suc m → ⊥) → count_below (λ k. eqb y (suc k)) m + cond (eqb y (suc m)) 1 0 ≤ 1
    go ih (inl e) =
        let z : count_below (λ k. eqb y (suc k)) m ≡ 0 = count_none (λ k. eqb y (suc k)) m (λ k l. ne_eqb y (suc k) (λ d. omega arith)) in
        omega (arith, small (eqb y (suc m)))
    go ih (inr d) =
        let z : ◌≡◌ {A = ℕ} (cond (eqb y (suc m)) 1 0) 0 = ap (λ (b : Bool). cond {A = ℕ} b 1 0) (ne_eqb y (suc m) d) in
        omega arith

count_held : (c : ℕ → Bool) (f : ℕ → ℕ) (n m : ℕ) → count_below (λ k. some_below (λ b. c b && eqb (f b) (suc k)) n) m ≤ count_below c n
unfolding some_below sum_below
count_held c f zero m = let z : count_below (λ k. false) m ≡ 0 = count_none (λ k. false) m (λ k l. refl) in omega arith
count_held c f (suc n) m =
    omega (arith, count_or (λ k. c n && eqb (f n) (suc k)) (λ k. some_below (λ b. c b && eqb (f b) (suc k)) n) m, count_one (c n) (f n) m, count_held c f n m)

-- the slots from 1 to m are all held by items that pass, so as many items pass
pub crowd : (c : ℕ → Bool) (f : ℕ → ℕ) (n m : ℕ) → ((t : ℕ) → 1 ≤ t → t ≤ m → some_below (λ b. c b && eqb (f b) t) n ≡ true) → m ≤ count_below c n
crowd c f n m h =
    let all : count_below (λ k. some_below (λ b. c b && eqb (f b) (suc k)) n) m ≡ m
    = count_all (λ k. some_below (λ b. c b && eqb (f b) (suc k)) n) m (λ k l. h (suc k) (omega arith) (omega arith)) in
    omega (arith, count_held c f n m)

-- the first number that fails

pub first-from : (p : ℕ → Bool) (s k : ℕ) → s ≤ first_from p s k
unfolding first_from
first-from p s zero = omega arith
first-from p s (suc k) = go (p s) (first-from p (suc s) k)
  where
    go : (v : Bool) → suc s ≤ first_from p (suc s) k → s ≤ cond v (first_from p (suc s) k) s
    go true h = omega arith
    go false h = omega arith

-- what stands before it passes
pub first_below : (p : ℕ → Bool) (s k t : ℕ) → s ≤ t → t < first_from p s k → p t ≡ true
unfolding first_from
first_below p s zero t l h = absurd (let z : ⊥ = omega arith in z)
first_below p s (suc k) t l h = go (λ g i. first_below p (suc s) k t g i) (p s) refl h
  where
    go : (suc s ≤ t → t < first_from p (suc s) k → p t ≡ true) → (v : Bool) → p s ≡ v → t < cond v (first_from p (suc s) k) s → p t ≡ true
    go ih true e i = elim (cases_eq t s) [ inl d ↦ ap p d ∙ e | inr d ↦ ih (omega arith) i ]
    go ih false e i = absurd (let z : ⊥ = omega arith in z)

-- it fails, unless all do pass
pub first_fails : (p : ℕ → Bool) (s k : ℕ) → (((t : ℕ) → s ≤ t → t ≤ s + k → p t ≡ true) → ⊥) → p (first_from p s k) ≡ false
unfolding first_from
first_fails p s zero f =
    ⊎_elim (λ e. absurd (f (λ t a b. let d : t ≡ s = omega arith in ap p d ∙ e))) (λ e. e) (cases_Bool (p s))
first_fails p s (suc k) f =
    ⊎_elim
    (λ e. ap (λ (b : Bool). p (cond b (first_from p (suc s) k) s)) e
    ∙ first_fails p (suc s) k (λ all. f (λ t a b. ⊎_elim (λ d. ap p d ∙ e) (λ d. all t (omega arith) (omega arith)) (cases_eq t s))))
    (λ e. ap (λ (b : Bool). p (cond b (first_from p (suc s) k) s)) e ∙ e)
    (cases_Bool (p s))

-- a number that fails, and before which all pass, is it
pub first_is : (p : ℕ → Bool) (s r k : ℕ) → ((t : ℕ) → s ≤ t → t < r → p t ≡ true) → p r ≡ false → s ≤ r → r ≤ s + k → r ≡ first_from p s k
unfolding first_from
first_is p s r zero f e l h = omega arith
first_is p s r (suc k) f e l h = go (λ m b. first_is p (suc s) r k (λ t a b. f t (omega arith) b) e m b) (cases_eq s r)
  where
    go : (suc s ≤ r → r ≤ suc s + k → r ≡ first_from p (suc s) k) → (s ≡ r) ⊎ (s ≡ r → ⊥) → r ≡ cond (p s) (first_from p (suc s) k) s
    go ih (inl d) = sym d ∙ ap (λ (b : Bool). cond b (first_from p (suc s) k) s) (sym (ap p d ∙ e))
    go ih (inr d) =
        ih (omega arith) (omega arith)
        ∙ ap (λ (b : Bool). cond b (first_from p (suc s) k) s) (sym (f s (omega arith) (omega arith)))

first_like : (p q : ℕ → Bool) → ((t : ℕ) → p t ≡ q t) → (s k : ℕ) → first_from p s k ≡ first_from q s k
unfolding first_from
first_like p q f s zero = refl
first_like p q f s (suc k) = ap₂ (λ (b : Bool) (x : ℕ). cond b x s) (f s) (first_like p q f (suc s) k)

-- the smallest slot that no clashing item holds

module _ (clash : ℕ → ℕ → Bool) (n : ℕ) where
  -- not all of n + 1 slots are held
  crowded : (f : ℕ → ℕ) (a m : ℕ) → ((t : ℕ) → 1 ≤ t → t ≤ m → holds clash n f a t ≡ true) → m ≤ n
  crowded f a m h = let c = crowd (clash a) f n m h in let k = count_le (clash a) n in omega arith

  pub least_free : (f : ℕ → ℕ) (a : ℕ) → holds clash n f a (least clash n f a) ≡ false
  unfolding least
  least_free f a = first_fails (holds clash n f a) 1 n (λ all. let l = crowded f a (n + 1) (λ t p q. all t p (omega arith)) in omega arith)

  pub least_below : (f : ℕ → ℕ) (a t : ℕ) → 1 ≤ t → t < least clash n f a → holds clash n f a t ≡ true
  unfolding least
  least_below f a t l h = first_below (holds clash n f a) 1 n t l h

  pub least_slot : (f : ℕ → ℕ) (a : ℕ) → 1 ≤ least clash n f a
  unfolding least
  least_slot f a = first-from (holds clash n f a) 1 n

  -- a slot that is free, and below which all are held, is it
  pub least_is : (f : ℕ → ℕ) (a r : ℕ) → 1 ≤ r → holds clash n f a r ≡ false → ((t : ℕ) → 1 ≤ t → t < r → holds clash n f a t ≡ true) → r ≡ least clash n f a
  unfolding least
  least_is f a zero l e h = absurd (let z : ⊥ = omega arith in z)
  least_is f a (suc r) l e h =
      let c = crowded f a r (λ t p q. h t p (omega arith)) in
      first_is (holds clash n f a) 1 (suc r) n h e l (omega arith)

  -- as many slots as there are items, all held: the next one is it
  pub least_last : (f : ℕ → ℕ) (a m : ℕ) → n ≤ m → ((t : ℕ) → 1 ≤ t → t ≤ m → holds clash n f a t ≡ true) → m + 1 ≡ least clash n f a
  unfolding least
  least_last f a m l h =
      let c = crowded f a m h in
      go (cases_Bool (holds clash n f a (m + 1)))
    where
      go : (holds clash n f a (m + 1) ≡ true) ⊎ (holds clash n f a (m + 1) ≡ false) → m + 1 ≡ first_from (holds clash n f a) 1 n
      go (inl t) = absurd (let c = crowded f a (m + 1) (λ s p q. ⊎_elim (λ e. ap (holds clash n f a) e ∙ t) (λ d. h s p (omega arith)) (cases_eq s (m + 1))) in let z : ⊥ = omega arith in z)
      go (inr e) = let c = crowded f a m h in first_is (holds clash n f a) 1 (m + 1) n (λ s p q. h s p (omega arith)) e (omega arith) (omega arith)

  -- what a search through the slots 1 to m gives, or else m + 1, is it
  pub least_search : (f : ℕ → ℕ) (a m : ℕ) → n ≤ m → (r : Option ℕ)
      → MatchOption r ((k : ℕ) → 1 ≤ k → k < m + 1 → holds clash n f a k ≡ true)
      (λ i. (1 ≤ i) × (i < m + 1) × (holds clash n f a i ≡ false) × ((k : ℕ) → 1 ≤ k → k < i → holds clash n f a k ≡ true))
      → unwrap_or r (m + 1) ≡ least clash n f a
  least_search f a m l None h = least_last f a m l (λ t p q. h t p (omega arith))
  least_search f a m l (Some i) h = least_is f a i h.0 h.2 h.3

  pub least_like : (f g : ℕ → ℕ) → ((k : ℕ) → k < n → f k ≡ g k) → (a : ℕ) → least clash n f a ≡ least clash n g a
  unfolding least
  least_like f g e a =
      first_like (holds clash n f a) (holds clash n g a)
      (λ t. some_like (λ b. clash a b && eqb (f b) t) (λ b. clash a b && eqb (g b) t) n (λ k l. ap (λ (x : ℕ). clash a k && eqb x t) (e k l)))
      1 n
