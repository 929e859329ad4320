-- Orders whose entries stand for numbers.
use Rattle.std.proofs.Common.{◌≡◌, ℕ, ◌<◌, Bool, true, false, List, length, get_or, map, take, Decides, Result, sym, ◌∙◌, ap, subst, refl, arith}
use Rattle.std.specs.Bool.{MatchBool}
use Rattle.std.specs.List.{AllWithin, HoldsAt}
use Rattle.std.proofs.lemmas.Bool.{both_ways}
use Rattle.std.proofs.lemmas.List.{get_or-take, get_or-map, length-take-le, map-id}
use Rattle.refusal.specs.declared.Refusal.{Refusal}
use Rattle.schedule.specs.Order.{Numbers, Ordered}
use Rattle.schedule.specs.Rand.{Repeats}

module _ {I : Type 0} (number : I → ℕ) (order : List I) (place : ℕ) (item : I) (inside : place < length order) where
  -- an entry before the place stands for the item's number, or none does
  pub repeats_decides : number item ≡ get_or (map number order) place 0 → (r : Bool)
      → MatchBool r ((k : ℕ) × (k < length (take place order)) × HoldsAt (λ x. number x ≡ number item) (take place order) k)
      (AllWithin (λ x. number x ≡ number item → ⊥) (take place order) 0 (length (take place order)))
      → Decides r (Repeats (map number order) place)
  repeats_decides is r h = go r h
    where
      long : length (take place order) ≡ place
      long = length-take-le place order (omega arith)

      at : (k : ℕ) → k < place → get_or (map number order) k 0 ≡ number (get_or (take place order) k item)
      at k l = get_or-map number order k item 0 (omega arith) ∙ ap number (sym (get_or-take place order k item l))

      go : (r : Bool) → MatchBool r ((k : ℕ) × (k < length (take place order)) × HoldsAt (λ x. number x ≡ number item) (take place order) k)
          (AllWithin (λ x. number x ≡ number item → ⊥) (take place order) 0 (length (take place order)))
          → Decides r (Repeats (map number order) place)
      go true (k, l, e) = ((λ _. (k, omega (arith, long), at k (omega (arith, long)) ∙ e item ∙ is)), λ _. refl)
      go false f = (
        (λ e. absurd (both_ways false refl e)),
        λ (j, l, e). absurd (f j item (omega arith) (omega (arith, long)) (sym (at j l) ∙ e ∙ sym is)),
      )

-- numbers stand for themselves
pub of_numbers : (n : ℕ) (order : List ℕ) (r : Result (Unit {0}) Refusal)
    → ((number : ℕ → ℕ) → Numbers (λ item k. k ≡ item) number → Ordered n (map number order) r) → Ordered n order r
of_numbers n order r h = subst (λ (xs : List ℕ). Ordered n xs r) (map-id order) (h (λ x. x) (λ item k e. e))
