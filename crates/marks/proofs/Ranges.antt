-- What a chain over `0..n` answers, in the words of numbers below a bound.
-- Each lemma takes what the call ensures under `ran`, that the range is 0..n, and what the closure answers.
use Rattle.std.proofs.Common.{◌≡◌, ℕ, ◌+◌, ◌<◌, max, Bool, true, false, List, [], ◌∷◌, ◌++◌, map, filter, fold, length, get_or, MatchBool, Option, unwrap_or, Decides, sym, refl, ap, ◌∙◌, arith}
use denote.Param.Members.{Mut}
use denote.Ref.{Bor}
use Rattle.std.specs.declared.ops.Range.{Range}
use Rattle.std.specs.declared.iter.Map.{Map}
use Rattle.std.specs.declared.iter.Filter.{Filter}
use Rattle.std.specs.Fn.{Called, CalledAt}
use Rattle.std.specs.Iterator.{Drains, ChecksAny, ChecksAll, FoldsItems, PicksByCmp}
use Rattle.std.specs.Ordering.{max_by_ordering, nat_cmp}
use Rattle.std.specs.Iterator.Adapters.{map_source, map_callee, map_steps, filter_source, filter_callee, filter_steps}
use Rattle.std.specs.Iterator.Runs.{EachRunFrom}
use Rattle.std.specs.List.{range_with_len, AllWithin, HoldsAt, reduce}
use Rattle.std.proofs.iter.Yields.{nat_range_steps}
use Rattle.std.proofs.lemmas.Iterator.{YieldsList, YieldsList-from_range, YieldsList-from_map, cases_from_any, cases_from_all}
use Rattle.std.proofs.lemmas.Iterator.Consumers.{count_from_yields_List, sum_by_from_yields_List, fits_by_from_yields_list, YieldsList-from_filter, fold_from_yields_List, max_from_yields_List}
use Rattle.std.proofs.lemmas.Iterator.Adapters.{option_map_id}
use Rattle.std.proofs.lemmas.Bool.{both_ways}
use Rattle.std.proofs.lemmas.Fn.{fold_over}
use Rattle.std.proofs.lemmas.List.FromFn.{length-range_with_len, get_or-range_with_len}
use Rattle.std.proofs.lemmas.List.Folds.{list_any_at, list_any_none, fold-map}
use Rattle.std.proofs.lemmas.List.Sums.{length-filter}
use Rattle.marks.specs.Below.{some_below, sum_below, count_below, max_below}
use Rattle.marks.proofs.Below.{list_any-range, count_by-range, sum_by-range, fold_max-range}

-- the range as a chain
pub below : {s : Range ℕ} (n : ℕ) → s ≡ record { start = 0; end = n } → YieldsList nat_range_steps (λ x. x) s (range_with_len 0 n)
below n e = YieldsList-from_range 0 n n e (omega arith)

-- `any`
pub any_below : {F : Type 0} {g : Mut F (ℕ × Unit {0}) Bool} {s u : Range ℕ} {f : F} (p : ℕ → Bool) (n : ℕ) (r : Bool) → ChecksAny nat_range_steps g s f r u → s ≡ record { start = 0; end = n }
    → ((x : ℕ) (b : Bool) (q : F) → Called g f (x, tt) b q → (q ≡ f) × (b ≡ p x)) → r ≡ some_below p n
any_below {u} {f} p n r ran e is = go r (cases_from_any u f r (λ x. p x ≡ true) (λ x. p x ≡ false) ran (below n e) (λ x q k. sym (is x true q k).1) (λ x q k. let h = is x false q k in (h.0, sym h.1)))
  where
    xs : List ℕ
    xs = range_with_len 0 n

    go : (b : Bool) → MatchBool b ((k : ℕ) × (k < length xs) × HoldsAt (λ x. p x ≡ true) xs k) (AllWithin (λ x. p x ≡ false) xs 0 (length xs)) → b ≡ some_below p n
    go true (k, l, h) = sym (list_any_at p xs k 0 l (h 0)) ∙ list_any-range p n
    go false h = sym (list_any_none p xs (λ k d l. h k d (omega arith) l)) ∙ list_any-range p n

-- `all`
pub all_below : {F : Type 0} {g : Mut F (ℕ × Unit {0}) Bool} {s u : Range ℕ} {f : F} (p : ℕ → Bool) (n : ℕ) (r : Bool) → ChecksAll nat_range_steps g s f r u → s ≡ record { start = 0; end = n }
    → ((x : ℕ) (b : Bool) (q : F) → Called g f (x, tt) b q → (q ≡ f) × (b ≡ p x)) → Decides r ((k : ℕ) → k < n → p k ≡ true)
all_below {u} {f} p n r ran e is = go r (cases_from_all u f r (λ x. p x ≡ true) (λ x. p x ≡ false) ran (below n e) (λ x q k. let h = is x true q k in (h.0, sym h.1)) (λ x q k. sym (is x false q k).1))
  where
    xs : List ℕ
    xs = range_with_len 0 n

    long : length xs ≡ n
    long = length-range_with_len 0 n

    at : (k : ℕ) → k < n → get_or xs k 0 ≡ k
    at k l = let e = get_or-range_with_len 0 n k 0 l in omega arith

    go : (b : Bool) → MatchBool b (AllWithin (λ x. p x ≡ true) xs 0 (length xs)) ((k : ℕ) × (k < length xs) × HoldsAt (λ x. p x ≡ false) xs k) → Decides b ((k : ℕ) → k < n → p k ≡ true)
    go true h = ((λ _ k l. ap p (sym (at k l)) ∙ h k 0 (omega arith) (omega (arith, long))), λ _. refl)
    go false (k, l, h) = ((λ t. absurd (both_ways false refl t)), λ t. absurd (both_ways (p k) (ap p (sym (at k (omega (arith, long)))) ∙ h 0) (t k (omega (arith, long)))))

-- `filter` and `count`
pub count_of_range : {F : Type 0} {g : Mut F (Bor ℕ × Unit {0}) Bool} {s : Filter (Range ℕ) F} {f : F} (p : ℕ → Bool) (n r : ℕ) → ((xs : List ℕ) × Drains (filter_steps nat_range_steps g) s xs × (r ≡ length xs)) → filter_source s ≡ record { start = 0; end = n }
    → filter_callee s ≡ f → ((x : ℕ) (b : Bool) (q : F) → CalledAt g f x b q → (q ≡ f) × (b ≡ p x)) → r ≡ count_below p n
count_of_range {g} {s} p n r ran e j is =
    count_from_yields_List s r ran (YieldsList-from_filter g p (below n e) j is)
    ∙ length-filter p (range_with_len 0 n) ∙ count_by-range p n

-- `map` and `sum`
module _ {F : Type 0} {g : Mut F (ℕ × Unit {0}) ℕ} {s : Map (Range ℕ) F} {f : F} (h : ℕ → ℕ) (n : ℕ) where
  mapped : map_source s ≡ record { start = 0; end = n } → map_callee s ≡ f → ((x r : ℕ) (q : F) → Called g f (x, tt) r q → (q ≡ f) × (r ≡ h x)) → YieldsList (map_steps nat_range_steps g) (λ x. x) s (map h (range_with_len 0 n))
  mapped e j is = YieldsList-from_map g h (below n e) j is

  pub sum_of_range : (r : ℕ) → ((xs : List ℕ) × (Unit {0} → Drains (map_steps nat_range_steps g) s xs) × (r ≡ fold (λ a x. a + x) 0 xs)) → map_source s ≡ record { start = 0; end = n } → map_callee s ≡ f → ((x r : ℕ) (q : F) → Called g f (x, tt) r q → (q ≡ f) × (r ≡ h x)) → r ≡ sum_below h n
  sum_of_range r ran e j is = sum_by_from_yields_List h (range_with_len 0 n) s r ran (mapped e j is) ∙ sum_by-range h n

  -- what `sum` asks: that the total is below top
  pub sum_of_range_fits : (top : ℕ) → map_source s ≡ record { start = 0; end = n } → map_callee s ≡ f → ((x r : ℕ) (q : F) → Called g f (x, tt) r q → (q ≡ f) × (r ≡ h x)) → sum_below h n < top → EachRunFrom (map_steps nat_range_steps g) s (λ p. fold (λ a x. a + x) 0 p.items < top)
  sum_of_range_fits top e j is l = fits_by_from_yields_list h (range_with_len 0 n) s top (mapped e j is) (let z = sum_by-range h n in omega arith)

most : (h : ℕ → ℕ) (n : ℕ) → unwrap_or (reduce max (map h (range_with_len 0 n))) 0 ≡ max_below h n
most h n = first (map h (range_with_len 0 n)) ∙ fold-map (λ a x. max a x) h 0 (range_with_len 0 n) ∙ fold_max-range h n
  where
    first : (xs : List ℕ) → unwrap_or (reduce max xs) 0 ≡ fold (λ a x. max a x) 0 xs
    first [] = refl
    first (x ∷ xs) = let e : x ≡ max 0 x = omega arith in ap (λ (a : ℕ). fold (λ a x. max a x) a xs) e

-- `map` and `max`, with 0 where there is none
pub max_of_range : {F : Type 0} {g : Mut F (ℕ × Unit {0}) ℕ} {s : Map (Range ℕ) F} {f : F} (h : ℕ → ℕ) (n : ℕ) (r : Option ℕ) → PicksByCmp (map_steps nat_range_steps g) max_by_ordering nat_cmp s r → map_source s ≡ record { start = 0; end = n }
    → map_callee s ≡ f → ((x r : ℕ) (q : F) → Called g f (x, tt) r q → (q ≡ f) × (r ≡ h x)) → unwrap_or r 0 ≡ max_below h n
max_of_range {s} h n r ran e j is = ap (λ (o : Option ℕ). unwrap_or o 0) (sym (option_map_id r) ∙ max_from_yields_List s r ran (mapped h n e j is)) ∙ most h n

-- `fold`
pub fold_of_range : {F C : Type 0} {g : Mut F (C × (ℕ × Unit {0})) C} {s : Range ℕ} {f : F} (h : C → ℕ → C) (n : ℕ) (init r : C) → FoldsItems nat_range_steps g s f init r → s ≡ record { start = 0; end = n }
    → ((a : C) (x : ℕ) (b : C) (q : F) → Called g f (a, (x, tt)) b q → (q ≡ f) × (b ≡ h a x)) → r ≡ fold h init (range_with_len 0 n)
fold_of_range {g} h n init r ran e is = fold_from_yields_List g h init r ran (below n e) is

-- `filter` and `fold`, by what each step keeps of the numbers so far
pub fold_of_filtered : {F H C : Type 0} {g : Mut F (Bor ℕ × Unit {0}) Bool} {k : Mut H (C × (ℕ × Unit {0})) C} {s : Filter (Range ℕ) F} {f : F} {h : H} (p : ℕ → Bool) (n : ℕ) (J : List ℕ → C → Type 0) (init r : C)
    → FoldsItems (filter_steps nat_range_steps g) k s h init r → filter_source s ≡ record { start = 0; end = n } → filter_callee s ≡ f → ((x : ℕ) (b : Bool) (q : F) → CalledAt g f x b q → (q ≡ f) × (b ≡ p x))
    → ((ys : List ℕ) (a : C) (x : ℕ) (b : C) (q : H) → J ys a → Called k h (a, (x, tt)) b q → J (ys ++ (x ∷ [])) b × (q ≡ h)) → J [] init → J (filter p (range_with_len 0 n)) r
fold_of_filtered {g} {k} {s} {h} p n J init r ran e j is step first =
    fold_over (filter_steps nat_range_steps g) (λ x. x) k J h step s (filter p (range_with_len 0 n)) init r (YieldsList-from_filter g p (below n e) j is).runs first ran
