-- An account has space in a text, so that what is written line by line is the account.
use Rattle.std.proofs.Common.{◌≡◌, ℕ, ◌*◌, ◌<◌, ◌≤◌, List, [], ◌++◌, length, get_or, Ok, Result, ap, ◌∙◌, ap₂, arith, length-append}
use Rattle.marks.proofs.Below.{max_le}
use Rattle.refusal.specs.declared.Refusal.{Refusal}
use Rattle.map.specs.View.{nodes, linked, link_count}
use Rattle.map.specs.declared.Map.{Map}
use Rattle.text.specs.Written.{row_line, clip}
use Rattle.text.proofs.Clip.{and_then, whole}
use Rattle.text.proofs.Lines.{two, three, row_short, lines_short, lines_like}
use Rattle.schedule.specs.declared.checking.Verdict.{Verdict}
use Rattle.schedule.specs.declared.checking.Verdict.TheVariants.{Accepted}
use Rattle.report.specs.Overview.{slot_of, frame, totals}
use Rattle.report.proofs.Room.{slot_le, pairs_lt, totals_short}
use Rattle.driven.specs.Account.{columns, rows, sizes, drive_slot, plan_slot, deliveries_of, account}

columns_lt : (n x y : ℕ) → n < 64 → x < 100 → y < 100 → (i : ℕ) → i < 3 → get_or (columns n x y) i 0 < 100
columns_lt n x y l p q = three 100 n x y (omega arith) p q

rows_short : (f g : ℕ → ℕ) (k : ℕ) → k ≤ 64 → ((i : ℕ) → i < k → f i < 100) → ((i : ℕ) → i < k → g i < 100) → length (rows f g k) ≤ 9 * k
rows_short f g k l p q =
    lines_short (λ n. row_line (columns n (f n) (g n))) 9 k
    (λ n h. row_short 2 (columns n (f n) (g n)) (omega arith) (omega arith) (columns_lt n (f n) (g n) (omega arith) (p n h) (q n h)))

account_short : (m : Map) → length (account m) ≤ 1024
account_short m =
    let k = m.most in
    let low : (i : ℕ) → i < nodes m → slot_of m i < 100 = λ i l. let s = slot_le m i l in omega arith in
    let f = max_le (slot_of m) (nodes m) 64 (λ i l. slot_le m i l) in
    let r = rows_short (slot_of m) (slot_of m) (nodes m) m.most low low in
    let n = pairs_lt m (linked m) in
    let t = totals_short 5 (sizes m) (frame m) (omega arith) (omega arith) (omega arith) (omega arith) (two 100000 (link_count m) (deliveries_of m) (omega arith) (omega arith)) (omega arith) in
    let e = length-append (rows (slot_of m) (slot_of m) (nodes m)) (totals (sizes m) (Ok (Accepted (frame m)))) in
    omega arith

-- the rows and the totals, one after the other

module _ (m : Map) (drive plan : ℕ → ℕ) (drives : (k : ℕ) → k < nodes m → drive k ≡ drive_slot m k) (plans : (k : ℕ) → k < nodes m → plan k ≡ plan_slot m k) where
  pub account_made : (s mid last ns : List ℕ) (v : Result Verdict Refusal) → s ≡ [] → ns ≡ sizes m → v ≡ Ok (Accepted (frame m))
      → mid ≡ clip (s ++ rows drive plan (nodes m)) → last ≡ clip (mid ++ totals ns v) → last ≡ account m
  account_made s mid last ns v none counts is p q =
      whole s last (account m) none (account_short m)
      (and_then s mid last (rows (drive_slot m) (plan_slot m) (nodes m)) (totals (sizes m) (Ok (Accepted (frame m))))
      (p
      ∙ ap (λ (x : List ℕ). clip (s ++ x))
      (lines_like (λ n. row_line (columns n (drive n) (plan n))) (λ n. row_line (columns n (drive_slot m n) (plan_slot m n))) (nodes m)
      (λ n l. ap₂ (λ (x y : ℕ). row_line (columns n x y)) (drives n l) (plans n l))))
      (q ∙ ap₂ (λ (xs : List ℕ) (x : Result Verdict Refusal). clip (mid ++ totals xs x)) counts is))
