-- A drive of all nodes in rising order is not refused, and what it comes to.
use Rattle.std.proofs.Common.{◌≡◌, ℕ, ◌<◌, ◌≤◌, true, List, length, get_or, is_ok, Ok, Err, Result, refl, subst, inl, inr, arith}
use Rattle.std.proofs.lemmas.List.FromFn.{fill_by_all}
use Rattle.refusal.specs.Entry.{entry, Why}
use Rattle.refusal.specs.declared.Refusal.{Refusal}
use Rattle.refusal.proofs.Why.{Why-cases}
use Rattle.map.specs.View.{nodes, contend}
use Rattle.map.specs.declared.Map.{Map}
use Rattle.map.proofs.Contends.{contend_mutual, contend_apart}
use Rattle.schedule.specs.Rand.{Fine, Named}
use Rattle.schedule.specs.Order.{Disordered}
use Rattle.schedule.specs.Sharing.{Checked}
use Rattle.schedule.specs.declared.checking.Verdict.TheVariants.{Accepted}
use Rattle.schedule.proofs.Accept.{rand_accepted}
use Rattle.schedule.proofs.Table.{table_is, well_ordered}
use Rattle.drive.specs.Drive.{Driven, Drove, LeavesOut, DriveRefused}
use Rattle.report.specs.Overview.{rising}
use Rattle.report.proofs.Room.{rising-length, rising_at, rising_fine}

-- the rising order names every node
rising_all : (n k : ℕ) → k < n → Named (rising n) k
rising_all n k l = (k, let e = rising-length n in omega arith, rising_at n k l)

module _ (m : Map) (before after : List ℕ) (room : nodes m ≤ length before) where
  never_refused : (number : ℕ) → DriveRefused (nodes m) (rising (nodes m)) before number → ⊥
  never_refused number h = elim (Why-cases number 1 (length before < nodes m) ((nodes m ≤ length before) × Late number) h) [
    | inl q ↦ omega arith
    | inr (_, late) ↦ elim (Why-cases number 6 Left (Disordered (nodes m) (rising (nodes m)) number) late) [
      | inl (_, (k, l, out)) ↦ out (rising_all (nodes m) k l)
      | inr wrong ↦ well_ordered (contend m) (nodes m) (rising (nodes m)) before after room (rising_fine (nodes m)) number wrong
    ]
  ]
    where
      Left : Type 0
      Left = Fine (nodes m) (rising (nodes m)) × LeavesOut (nodes m) (rising (nodes m))

      Late : ℕ → Type 0
      Late number = Why number 6 Left (Disordered (nodes m) (rising (nodes m)) number)

  not_refused : (r : Result ℕ Refusal) → Drove m (rising (nodes m)) before after r → is_ok r ≡ true
  not_refused (Ok count) d = refl
  not_refused (Err e) d = absurd (never_refused (entry e).number d.1)

-- the drive was given the numbers below the count
module _ (m : Map) (xs before after : List ℕ) (r : Result ℕ Refusal) (long : length xs ≡ nodes m) (each : (k : ℕ) → k < nodes m → get_or xs k 0 ≡ k) (d : Drove m xs before after r) where
  drove_rising : Drove m (rising (nodes m)) before after r
  drove_rising = subst (λ (ys : List ℕ). Drove m ys before after r) (fill_by_all (λ i. i) xs (nodes m) 0 long each) d

  pub drive_ok : nodes m ≤ length before → is_ok r ≡ true
  drive_ok room = not_refused m before after room r drove_rising

  pub drive_made : (count : ℕ) → r ≡ Ok count → Driven m (rising (nodes m)) before after count
  drive_made count is = (subst (λ (a : Result ℕ Refusal). Drove m (rising (nodes m)) before after a) is drove_rising).2

-- the checker accepts what the drive leaves
pub drive_accepted : (m : Map) (before after : List ℕ) (count : ℕ) → nodes m ≤ length after → Driven m (rising (nodes m)) before after count
    → (x : ℕ) × Checked (contend m) (nodes m) after (Ok (Accepted x))
drive_accepted m before after count room d =
    rand_accepted (contend m) (nodes m) (contend_mutual m) (contend_apart m) (rising (nodes m)) after room
    (table_is (contend m) (nodes m) (rising (nodes m)) after (rising_fine (nodes m)) d.rands)
