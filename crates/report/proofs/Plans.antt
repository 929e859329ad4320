-- The plan by rising number, over a map that is lent.
use Rattle.std.proofs.Common.{◌≡◌, ℕ, zero, suc, ◌<◌, ◌≤◌, List, length, get_or, replicate, Ok, Result, refl, ap, ◌∙◌, subst}
use Rattle.std.proofs.lemmas.List.FromFn.{fill_by_all}
use Rattle.marks.proofs.Below.{max_like}
use Rattle.refusal.specs.declared.Refusal.{Refusal}
use Rattle.map.specs.View.{nodes, contend}
use Rattle.map.specs.declared.Map.{Map}
use Rattle.schedule.specs.Order.{entries, Planned, Sound}
use Rattle.schedule.specs.Sharing.{Checked}
use Rattle.schedule.specs.declared.checking.Verdict.{Verdict}
use Rattle.schedule.specs.declared.checking.Verdict.TheVariants.{Accepted}
use Rattle.schedule.proofs.Accept.{checked_only}
use Rattle.schedule.proofs.Table.{planned_fine}
use Rattle.report.specs.Overview.{rising, slot_of, frame}
use Rattle.report.proofs.Room.{rising_fine}

pub zeros : (n k : ℕ) → ◌≡◌ {A = ℕ} (get_or (replicate n 0) k 0) 0
zeros zero k = refl
zeros (suc n) zero = refl
zeros (suc n) (suc k) = zeros n k

-- the planner was given the numbers below the count and a table that is long enough
pub plan_rising : (m l : Map) (xs before after : List ℕ) (r : Result (Unit {0}) Refusal) → l ≡ m → length xs ≡ nodes m → ((k : ℕ) → k < nodes m → get_or xs k 0 ≡ k)
    → nodes m ≤ length before → Planned (contend l) (nodes l) xs before after r → Sound (contend l) (nodes l) xs after r
    → ((k : ℕ) → k < nodes m → get_or after k 0 ≡ slot_of m k) × ((x : ℕ) × Checked (contend m) (nodes m) after (Ok (Accepted x))) × ((k : ℕ) → nodes m ≤ k → get_or after k 0 ≡ get_or before k 0)
plan_rising m l xs before after r e long each room p s =
    let is : xs ≡ rising (nodes m) = fill_by_all (λ i. i) xs (nodes m) 0 long each in
    planned_fine (contend m) (nodes m) (rising (nodes m)) before after room (rising_fine (nodes m)) r
    (subst (λ (ys : List ℕ). Planned (contend m) (nodes m) ys before after r) is (subst (λ (k : Map). Planned (contend k) (nodes k) xs before after r) e p))
    (subst (λ (ys : List ℕ). Sound (contend m) (nodes m) ys after r) is (subst (λ (k : Map). Sound (contend k) (nodes k) xs after r) e s))

-- what the checker says of that plan
pub verdict_is : (m l : Map) (slots : List ℕ) (v : Result Verdict Refusal) → l ≡ m → ((k : ℕ) → k < nodes m → get_or slots k 0 ≡ slot_of m k)
    → ((x : ℕ) × Checked (contend m) (nodes m) slots (Ok (Accepted x))) → Checked (contend l) (nodes l) slots v → v ≡ Ok (Accepted (frame m))
verdict_is m l slots v e is (x, a) c =
    checked_only (contend m) (nodes m) slots x a v (subst (λ (k : Map). Checked (contend k) (nodes k) slots v) e c)
    ∙ ap (λ (n : ℕ). Ok (Accepted n)) (max_like (entries slots) (slot_of m) (nodes m) is)
