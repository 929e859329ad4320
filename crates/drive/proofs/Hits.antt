-- Counting: messages about a node, and sums that differ in one place.
use Rattle.std.proofs.Common.{◌≡◌, ℕ, zero, suc, ◌+◌, ◌<◌, ◌≤◌, Bool, true, false, cond, eqb, ◌⊎◌, List, [], ◌∷◌, ◌++◌, length, sym, refl, ap, ◌∙◌, inl, inr, arith}
use mathlib.Core.List.Memᴰ
use Rattle.std.proofs.lemmas.Bool.{cases_eq, eq-eqb, ne_eqb}
use Rattle.marks.specs.Below.{sum_below}
use Rattle.marks.specs.View.{marked}
use Rattle.marks.proofs.Below.{sum_like, sum_add, sum_le}
use Rattle.radio.specs.Ways.{In}
use Rattle.radio.specs.declared.message.Message.{Message}
use Rattle.rig.specs.declared.node.Node.{Node}
use Rattle.rig.specs.Calm.{is_request, is_grant}
use Rattle.rig.specs.Board.{each}
use Rattle.drive.specs.Sure.{tally}
use Rattle.drive.proofs.Episode.{about, hits, wait, cost}

-- messages about a node

pub one_if : (u k : ℕ) → u ≡ k → ◌≡◌ {A = ℕ} (cond (eqb u k) 1 0) 1
one_if u k e = ap (λ (v : Bool). cond {A = ℕ} v 1 0) (eq-eqb u k e)

pub none_if : (u k : ℕ) → (u ≡ k → ⊥) → ◌≡◌ {A = ℕ} (cond (eqb u k) 1 0) 0
none_if u k e = ap (λ (v : Bool). cond {A = ℕ} v 1 0) (ne_eqb u k e)

pub tally_append : (p : Message → Bool) (xs ys : List Message) → tally p (xs ++ ys) ≡ tally p xs + tally p ys
tally_append p [] ys = omega arith
tally_append p (x ∷ xs) ys = let h = tally_append p xs ys in omega arith

pub hits_in : (k : ℕ) (xs : List Message) (y : Message) → In y xs → about y ≡ k → 1 ≤ hits k xs
hits_in k [] y i e = absurd (Memᴰ.not-nil i)
hits_in k (x ∷ xs) y i e = go (λ j. hits_in k xs y j e) (Memᴰ.cases_cons i)
  where
    go : (In y xs → 1 ≤ hits k xs) → (y ≡ x) ⊎ In y xs → 1 ≤ hits k (x ∷ xs)
    go ih (inl d) = let z = one_if (about x) k (ap about (sym d) ∙ e) in omega arith
    go ih (inr j) = let z = ih j in omega arith

pub hits_off : (k : ℕ) (xs : List Message) → ((y : Message) → In y xs → about y ≡ k → ⊥) → hits k xs ≡ 0
hits_off k [] h = refl
hits_off k (x ∷ xs) h =
    let e = none_if (about x) k (h x (Memᴰ.head refl)) in
    let ih = hits_off k xs (λ y i. h y (Memᴰ.tail i)) in
    omega arith

-- one message to each that passes
module _ (p : ℕ → Bool) (f : ℕ → Message) (g : (j : ℕ) → about (f j) ≡ j) where
  last_off : (n k : ℕ) → (n ≡ k → ⊥) → (v : Bool) → hits k (cond v (f n ∷ []) []) ≡ 0
  last_off n k d true = let z = none_if (about (f n)) k (λ e. d (sym (g n) ∙ e)) in omega arith
  last_off n k d false = refl

  hits_past : (n k : ℕ) → n ≤ k → hits k (each p f n) ≡ 0
  unfolding each
  hits_past zero k l = refl
  hits_past (suc n) k l =
      let ih = hits_past n k (omega arith) in
      tally_append (λ x. eqb (about x) k) (each p f n) (cond (p n) (f n ∷ []) [])
      ∙ (let z = last_off n k (λ e. let u : ⊥ = omega arith in u) (p n) in omega arith)

  pub hits_each : (n k : ℕ) → k < n → p k ≡ true → hits k (each p f n) ≡ 1
  unfolding each
  hits_each zero k l t = absurd (let z : ⊥ = omega arith in z)
  hits_each (suc n) k l t = tally_append (λ x. eqb (about x) k) (each p f n) (cond (p n) (f n ∷ []) []) ∙ go (λ q. hits_each n k q t) (cases_eq n k)
    where
      go : (k < n → hits k (each p f n) ≡ 1) → (n ≡ k) ⊎ (n ≡ k → ⊥) → hits k (each p f n) + hits k (cond (p n) (f n ∷ []) []) ≡ 1
      go ih (inl e) =
          let x : hits k (each p f n) ≡ 0 = hits_past n k (omega arith) in
          let y : hits k (cond (p n) (f n ∷ []) []) ≡ hits k (f n ∷ []) = ap (λ (v : Bool). hits k (cond v (f n ∷ []) [])) (ap p e ∙ t) in
          let z = one_if (about (f n)) k (g n ∙ e) in
          omega arith
      go ih (inr d) = let x = ih (omega arith) in let y = last_off n k d (p n) in omega arith

-- sums

pub sum_none : (f : ℕ → ℕ) (n : ℕ) → ((i : ℕ) → i < n → f i ≡ 0) → sum_below f n ≡ 0
sum_none f n h = let l = sum_le f 0 n (λ i q. let e = h i q in omega arith) in omega arith

-- more by d in one place
pub sum_at : (f g : ℕ → ℕ) (n k d : ℕ) → k < n → g k ≡ f k + d → ((i : ℕ) → (i ≡ k → ⊥) → g i ≡ f i) → sum_below g n ≡ sum_below f n + d
unfolding sum_below
sum_at f g zero k d l e h = absurd (let z : ⊥ = omega arith in z)
sum_at f g (suc n) k d l e h = go (λ q. sum_at f g n k d q e h) (cases_eq n k)
  where
    go : (k < n → sum_below g n ≡ sum_below f n + d) → (n ≡ k) ⊎ (n ≡ k → ⊥) → sum_below g n + g n ≡ (sum_below f n + f n) + d
    go ih (inl q) =
        let x : sum_below g n ≡ sum_below f n = sum_like g f n (λ i l. h i (λ z. let u : ⊥ = omega arith in u)) in
        let y : g n ≡ g k = ap g q in
        let z : f n ≡ f k = ap f q in
        omega arith
    go ih (inr q) = let x = ih (omega arith) in let y = h n q in omega arith

-- as many messages as there are about the nodes below n, if all are about those
pub length_hits : (n : ℕ) (xs : List Message) → ((y : Message) → In y xs → about y < n) → length xs ≡ sum_below (λ k. hits k xs) n
length_hits n [] h = sym (sum_none (λ _. 0) n (λ _ _. refl))
length_hits n (x ∷ xs) h =
    let ih = length_hits n xs (λ y i. h y (Memᴰ.tail i)) in
    let s = sum_add (λ k. cond (eqb (about x) k) 1 0) (λ k. hits k xs) n in
    let z = sum_none (λ _. 0) n (λ _ _. refl) in
    let o = sum_at (λ _. 0) (λ k. cond (eqb (about x) k) 1 0) n (about x) 1 (h x (Memᴰ.head refl)) (one_if (about x) (about x) refl) (λ i d. none_if (about x) i (λ q. d (sym q))) in
    omega arith

-- the stages of a neighbour

pub wait_small : (v : Node) (k : ℕ) (u : Node) → wait v k u ≤ 1
wait_small v k u = go (is_request v.phase) (marked v.granted k) (is_grant u.phase)
  where
    go : (p q s : Bool) → cond p (cond q 0 1) (cond s 1 0) ≤ 1
    go true true s = omega arith
    go true false s = omega arith
    go false q true = omega arith
    go false q false = omega arith

pub cost_small : (v : Node) (k : ℕ) (u : Node) → cost v k u ≤ 3
cost_small v k u = go (is_request v.phase) (marked v.granted k) (is_grant u.phase)
  where
    go : (p q s : Bool) → cond p (cond q 1 (cond s 2 3)) (cond s 1 0) ≤ 3
    go true true s = omega arith
    go true false true = omega arith
    go true false false = omega arith
    go false q true = omega arith
    go false q false = omega arith

module _ (v : Node) (k : ℕ) (u : Node) (p q g : Bool) (x : is_request v.phase ≡ p) (y : marked v.granted k ≡ q) (z : is_grant u.phase ≡ g) where
  pub cost_is : cost v k u ≡ cond p (cond q 1 (cond g 2 3)) (cond g 1 0)
  cost_is = rw (x, y, z)

  pub wait_is : wait v k u ≡ cond p (cond q 0 1) (cond g 1 0)
  wait_is = rw (x, y, z)
