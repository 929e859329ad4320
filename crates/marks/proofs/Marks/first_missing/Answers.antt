use Rattle.std.proofs.Common.{◌≡◌, ℕ, ◌<◌, ◌≤◌, true, false, Some, None, Option, MatchOption, rules, tests, arith}
use Rattle.std.proofs.lemmas.Iterator.{first_from_Range}
use Rattle.marks.specs.Sets.{FirstMissing}
use Rattle.marks.specs.View.{marked}
use Rattle.marks.specs.declared.Marks.{Marks}
use Rattle.marks.proofs.Marks.first_missing.Goals as goal

first : (m : Marks) (r : Option ℕ) → MatchOption r ((k : ℕ) → 0 ≤ k → k < 64 → marked m k ≡ true) (λ i. (0 ≤ i) × (i < 64) × (marked m i ≡ false) × ((k : ℕ) → 0 ≤ k → k < i → marked m k ≡ true))
    → FirstMissing m r
first m None h = λ j l. h j (omega arith) l
first m (Some i) h = (h.1, h.2, λ j l. h.3 j (omega arith) l)

pub returns : goal.returns
returns c =
    let m = c.args.self in
    first m c.find.result
    (first_from_Range _ _ _ c.find.result (λ i. marked m i ≡ false) (λ i. marked m i ≡ true) c.find.ensures.ran (λ x q k. search (rules, tests)) (λ x q k. search (rules, tests)))
