-- Laws of the numbers below a bound.
use Rattle.std.proofs.Common.{◌≡◌, ℕ, zero, suc, ◌+◌, ◌*◌, ◌<◌, ◌≤◌, max, Bool, true, false, cond, ◌||◌, List, [], ◌∷◌, ◌++◌, fold, sum_by, count_by, ◌⊎◌, Decides, refl, ap, ◌∙◌, ap₂, inl, inr, add-one, arith}
use Rattle.std.specs.List.{range_with_len, list_any}
use Rattle.std.proofs.Math.Bool.{or_comm, or-false}
use Rattle.std.proofs.lemmas.Bool.{cases_eq}
use Rattle.std.proofs.lemmas.Bool.Decides.{Decides-below_or}
use Rattle.std.proofs.lemmas.List.Folds.{list_any-append}
use Rattle.std.proofs.lemmas.List.Sums.{fold_push}
use Rattle.marks.specs.Below.{some_below, sum_below, count_below, max_below}

pub some_decides : (p : ℕ → Bool) (P : ℕ → Type 0) → ((k : ℕ) → Decides (p k) (P k)) → (n : ℕ) → Decides (some_below p n) ((k : ℕ) × (k < n) × P k)
unfolding some_below
some_decides p P each n = Decides-below_or p P (some_below p) each refl (λ _. refl) n

pub sum_more : (f : ℕ → ℕ) (n : ℕ) → sum_below f (n + 1) ≡ sum_below f n + f n
unfolding sum_below
sum_more f n = ap (sum_below f) (add-one n)

pub sum_like : (f g : ℕ → ℕ) (n : ℕ) → ((i : ℕ) → i < n → f i ≡ g i) → sum_below f n ≡ sum_below g n
unfolding sum_below
sum_like f g zero h = refl
sum_like f g (suc n) h = ap₂ (λ (x y : ℕ). x + y) (sum_like f g n (λ i l. h i (omega arith))) (h n (omega arith))

pub sum_add : (f g : ℕ → ℕ) (n : ℕ) → sum_below (λ i. f i + g i) n ≡ sum_below f n + sum_below g n
unfolding sum_below
sum_add f g zero = omega arith
sum_add f g (suc n) = let e = sum_add f g n in omega arith

-- a sum is at most n times the bound of its parts
pub sum_le : (f : ℕ → ℕ) (m n : ℕ) → ((i : ℕ) → i < n → f i ≤ m) → sum_below f n ≤ m * n
unfolding sum_below
sum_le f m zero h = omega arith
sum_le f m (suc n) h = let l = sum_le f m n (λ i q. h i (omega arith)) in let k = h n (omega arith) in omega arith

-- numbers that add nothing
pub sum_past : (f : ℕ → ℕ) (n k : ℕ) → ((i : ℕ) → n ≤ i → f i ≡ 0) → sum_below f (n + k) ≡ sum_below f n
unfolding sum_below
sum_past f n zero h = let e : n + 0 ≡ n = omega arith in ap (sum_below f) e
sum_past f n (suc k) h =
    let e : n + suc k ≡ suc (n + k) = omega arith in
    let z = h (n + k) (omega arith) in
    let ih = sum_past f n k h in
    ap (sum_below f) e ∙ (let s : sum_below f (n + k) + f (n + k) ≡ sum_below f n = omega arith in s)

-- a table that is the same across its diagonal, with nothing on it, is twice what lies below it
pub square : (f : ℕ → ℕ → ℕ) → ((a b : ℕ) → f a b ≡ f b a) → ((a : ℕ) → f a a ≡ 0) → (n : ℕ) → sum_below (λ a. sum_below (f a) n) n ≡ 2 * sum_below (λ a. sum_below (f a) a) n
unfolding sum_below
square f swap none zero = omega arith
square f swap none (suc n) =
    let e = square f swap none n in
    let x = sum_add (λ a. sum_below (f a) n) (λ a. f a n) n in
    let y = sum_like (f n) (λ a. f a n) n (λ i _. swap n i) in
    let z = none n in
    omega arith

pub count_like : (p q : ℕ → Bool) (n : ℕ) → ((i : ℕ) → i < n → p i ≡ q i) → count_below p n ≡ count_below q n
count_like p q n h = sum_like (λ i. cond (p i) 1 0) (λ i. cond (q i) 1 0) n (λ i l. ap (λ (b : Bool). cond {A = ℕ} b 1 0) (h i l))

pub count_more : (p : ℕ → Bool) (n : ℕ) (v : Bool) → p n ≡ v → count_below p (n + 1) ≡ count_below p n + cond v 1 0
count_more p n v e = sum_more (λ i. cond (p i) 1 0) n ∙ ap (λ (b : Bool). count_below p n + cond b 1 0) e

one_at_most : (b : Bool) → cond b 1 0 ≤ 1
one_at_most true = omega arith
one_at_most false = omega arith

pub count_le : (p : ℕ → Bool) (n : ℕ) → count_below p n ≤ n
count_le p n = let l = sum_le (λ i. cond (p i) 1 0) 1 n (λ i _. one_at_most (p i)) in omega arith

-- the largest

pub max_like : (f g : ℕ → ℕ) (n : ℕ) → ((i : ℕ) → i < n → f i ≡ g i) → max_below f n ≡ max_below g n
unfolding max_below
max_like f g zero h = refl
max_like f g (suc n) h = ap₂ (λ (x y : ℕ). max x y) (max_like f g n (λ i l. h i (omega arith))) (h n (omega arith))

pub max_above : (f : ℕ → ℕ) (n i : ℕ) → i < n → f i ≤ max_below f n
unfolding max_below
max_above f zero i l = absurd (let z : ⊥ = omega arith in z)
max_above f (suc n) i l = go (cases_eq i n) (λ q. max_above f n i q)
  where
    go : (i ≡ n) ⊎ (i ≡ n → ⊥) → (i < n → f i ≤ max_below f n) → f i ≤ max (max_below f n) (f n)
    go (inl e) ih = let d = ap f e in omega arith
    go (inr d) ih = let q = ih (omega arith) in omega arith

pub max_le : (f : ℕ → ℕ) (n m : ℕ) → ((i : ℕ) → i < n → f i ≤ m) → max_below f n ≤ m
unfolding max_below
max_le f zero m h = omega arith
max_le f (suc n) m h = let l = max_le f n m (λ i q. h i (omega arith)) in let k = h n (omega arith) in omega arith

-- the same of the list 0, 1, .., n - 1, which a chain over `0..n` gives

range_more : (a n j : ℕ) → a + n ≡ j → range_with_len a (suc n) ≡ range_with_len a n ++ (j ∷ [])
range_more a zero j e = let f : a ≡ j = omega arith in ap {B = List ℕ} (λ (k : ℕ). k ∷ []) f
range_more a (suc n) j e = ap {B = List ℕ} (λ (l : List ℕ). a ∷ l) (range_more (a + 1) n j (omega arith))

-- one number more
pub fold_range : {X : Type 0} (f : X → ℕ → X) (a : X) (n : ℕ) → fold f a (range_with_len 0 (suc n)) ≡ f (fold f a (range_with_len 0 n)) n
fold_range f a n = ap (fold f a) (range_more 0 n n (omega arith)) ∙ fold_push f a (range_with_len 0 n) n

pub sum_by-range : (f : ℕ → ℕ) (n : ℕ) → sum_by f (range_with_len 0 n) ≡ sum_below f n
unfolding sum_below
sum_by-range f zero = refl
sum_by-range f (suc n) = fold_range (λ a x. a + f x) 0 n ∙ ap (λ (a : ℕ). a + f n) (sum_by-range f n)

pub count_by-range : (p : ℕ → Bool) (n : ℕ) → count_by p (range_with_len 0 n) ≡ count_below p n
count_by-range p n = sum_by-range (λ i. cond (p i) 1 0) n

pub fold_max-range : (f : ℕ → ℕ) (n : ℕ) → fold (λ a x. max a (f x)) 0 (range_with_len 0 n) ≡ max_below f n
unfolding max_below
fold_max-range f zero = refl
fold_max-range f (suc n) = fold_range (λ a x. max a (f x)) 0 n ∙ ap (λ (a : ℕ). max a (f n)) (fold_max-range f n)

pub list_any-range : (p : ℕ → Bool) (n : ℕ) → list_any p (range_with_len 0 n) ≡ some_below p n
unfolding some_below
list_any-range p zero = refl
list_any-range p (suc n) =
    ap (list_any p) (range_more 0 n n (omega arith))
    ∙ list_any-append p (range_with_len 0 n) (n ∷ [])
    ∙ ap (λ (b : Bool). list_any p (range_with_len 0 n) || b) (or-false (p n))
    ∙ or_comm (list_any p (range_with_len 0 n)) (p n)
    ∙ ap (λ (b : Bool). p n || b) (list_any-range p n)
