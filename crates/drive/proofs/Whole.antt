-- What the searches through an order tell: whether it names a node, and whether it names all.
use Rattle.std.proofs.Common.{◌≡◌, ℕ, ◌<◌, Bool, true, false, eqb, length, get_or, List, MatchBool, Decides, refl, subst, arith}
use denote.Param.Members.{Mut}
use Rattle.std.specs.declared.ops.Range.{Range}
use Rattle.std.specs.Fn.{Called}
use Rattle.std.specs.Iterator.{ChecksAll}
use Rattle.std.specs.List.{IsAnyAnswer, AllWithin, HoldsAt, range_with_len}
use Rattle.std.proofs.iter.Yields.{nat_range_steps}
use Rattle.std.proofs.lemmas.Bool.{both_ways, eqb-true, eq-eqb}
use Rattle.std.proofs.lemmas.Iterator.{cases_from_all}
use Rattle.std.proofs.lemmas.List.FromFn.{length-range_with_len, get_or-range_with_len}
use Rattle.marks.proofs.Ranges.{below}
use Rattle.schedule.specs.Rand.{Named}
use Rattle.drive.specs.Drive.{LeavesOut}

pub named : (order : List ℕ) (k : ℕ) (r : Bool) → IsAnyAnswer (λ y b. eqb y k ≡ b) order r → Decides r (Named order k)
named order k true (i, l, h) = ((λ _. (i, l, eqb-true (get_or order i 0) k (h 0))), λ _. refl)
named order k false f = (
  (λ e. absurd (both_ways false refl e)),
  λ (j, l, e). absurd (both_ways (eqb (get_or order j 0) k) (f j 0 (omega arith) l) (eq-eqb (get_or order j 0) k e)),
)

-- `all` over the nodes, where the closure decides whether one is named: each is, or one is left out
pub all_named : {F : Type 0} {g : Mut F (ℕ × Unit {0}) Bool} {s u : Range ℕ} {f : F} (order : List ℕ) (n : ℕ) (r : Bool)
    → ChecksAll nat_range_steps g s f r u → s ≡ record { start = 0; end = n }
    → ((x : ℕ) (b : Bool) (q : F) → Called g f (x, tt) b q → (q ≡ f) × Decides b (Named order x))
    → MatchBool r ((k : ℕ) → k < n → Named order k) (LeavesOut n order)
all_named {u} {f} order n r ran e is =
    go r (cases_from_all u f r (λ x. Named order x) (λ x. Named order x → ⊥) ran (below n e) (λ x q k. let h = is x true q k in (h.0, h.1.0 refl))
    (λ x q k name. both_ways false refl ((is x false q k).1.1 name)))
  where
    xs : List ℕ
    xs = range_with_len 0 n

    long : length xs ≡ n
    long = length-range_with_len 0 n

    at : (k : ℕ) → k < n → get_or xs k 0 ≡ k
    at k l = let e = get_or-range_with_len 0 n k 0 l in omega arith

    go : (b : Bool) → MatchBool b (AllWithin (λ x. Named order x) xs 0 (length xs)) ((k : ℕ) × (k < length xs) × HoldsAt (λ x. Named order x → ⊥) xs k)
        → MatchBool b ((k : ℕ) → k < n → Named order k) (LeavesOut n order)
    go true h = λ k l. subst (Named order) (at k l) (h k 0 (omega arith) (omega (arith, long)))
    go false (k, l, h) = (k, omega (arith, long), subst (λ (x : ℕ). Named order x → ⊥) (at k (omega (arith, long))) (h 0))
