-- An overview has space in a text.
use Rattle.std.proofs.Common.{List, ◌^◌, ◌≡◌, ℕ, zero, suc, ◌+◌, ◌*◌, ◌<◌, ◌≤◌, Bool, [], ◌∷◌, ◌++◌, length, get_or, Ok, codes, ap, arith, length-append}
use Rattle.std.proofs.lemmas.List.FromFn.{length-map-range_with_len, get_or-map-range_with_len}
use Rattle.std.proofs.lemmas.Nat.{mul-le}
use Rattle.marks.specs.Below.{count_below}
use Rattle.marks.proofs.Below.{count_le, sum_le, max_le}
use Rattle.map.specs.View.{nodes, linked, contend, degree, contender_count, pairs, link_count}
use Rattle.map.specs.declared.Map.{Map}
use Rattle.map.proofs.Counts.{degree_le, contenders_le}
use Rattle.text.specs.Written.{spaced, row_line}
use Rattle.text.proofs.Lines.{one, three, spaced_short, row_short, lines_short}
use Rattle.schedule.specs.Rand.{Fine}
use Rattle.schedule.specs.declared.checking.Verdict.TheVariants.{Accepted}
use Rattle.schedule.proofs.Rand.{rand_is, rand_low}
use Rattle.report.specs.Overview.{rising, slot_of, frame, contending_pairs, columns, rows, verdict_text, sizes, totals, overview}

-- the nodes in rising order

module _ (n : ℕ) where
  pub rising-length : length (rising n) ≡ n
  rising-length = length-map-range_with_len (λ i. i) 0 n

  pub rising_at : (i : ℕ) → i < n → get_or (rising n) i 0 ≡ i
  rising_at i l = get_or-map-range_with_len (λ i. i) 0 n i i 0 l (omega arith)

  pub rising_fine : Fine n (rising n)
  rising_fine j l =
      let e = rising-length in
      let d = rising_at j (omega arith) in
      (omega arith, λ (i, p, q). let c = rising_at i (omega arith) in let z : ⊥ = omega arith in z)

-- a node's slot in a plan by rising number is at most 64
pub slot_le : (m : Map) (n : ℕ) → n < nodes m → slot_of m n ≤ 64
slot_le m n l =
    let k = m.most in
    let e = rising-length (nodes m) in
    let low = rand_low (contend m) (nodes m) (rising (nodes m)) (slot_of m) (rand_is (contend m) (nodes m) (rising (nodes m)) (rising_fine (nodes m))) n (omega arith) in
    let few = count_le (λ j. contend m (get_or (rising (nodes m)) n 0) (get_or (rising (nodes m)) j 0)) n in
    let at = ap (slot_of m) (rising_at (nodes m) n l) in
    omega arith

pub accepted_short : (largest : ℕ) → largest < 10000 → length (verdict_text (Ok (Accepted largest))) ≤ 14
accepted_short v l =
    let e = spaced_short 4 (v ∷ []) (omega arith) (omega arith) (one 10000 v l) in
    let s = length-append (spaced (v ∷ [])) (codes " accepted") in
    omega arith

-- a last line of at most three numbers of at most k digits
pub totals_short : (k : ℕ) (numbers : List ℕ) (largest : ℕ) → 0 < k → k < 20 → 10 ^ k ≤ 2 ^ 64 → length numbers ≤ 3 → ((i : ℕ) → i < length numbers → get_or numbers i 0 < 10 ^ k) → largest < 10000
    → length (totals numbers (Ok (Accepted largest))) ≤ 100
totals_short k numbers v p small w few h l =
    let e = spaced_short k numbers p w h in
    let most : (k + 1) * length numbers ≤ 20 * 3 = mul-le (k + 1) (length numbers) 20 3 (omega arith) few in
    let t = accepted_short v l in
    let x = length-append (codes "total") (spaced numbers ++ (verdict_text (Ok (Accepted v)) ++ (10 ∷ []))) in
    let y = length-append (spaced numbers) (verdict_text (Ok (Accepted v)) ++ (10 ∷ [])) in
    let z = length-append (verdict_text (Ok (Accepted v))) (10 ∷ []) in
    omega arith

module _ (m : Map) where
  contenders_lt : (n : ℕ) → contender_count m n < 100
  contenders_lt n = let l = contenders_le m n in omega arith

  degree_lt : (n : ℕ) → degree m n < 100
  degree_lt n = let l = degree_le m n in omega arith

  pub pairs_lt : (r : ℕ → ℕ → Bool) → pairs r (nodes m) < 10000
  pairs_lt r =
      let k = m.most in
      let l = sum_le (λ a. count_below (r a) a) 64 (nodes m) (λ a q. let c = count_le (r a) a in omega arith) in
      omega arith

  columns_lt : (n slot : ℕ) → n < 64 → slot < 100 → (i : ℕ) → i < 4 → get_or (columns m n slot) i 0 < 100
  columns_lt n slot l h zero q = omega arith
  columns_lt n slot l h (suc i) q = three 100 (degree m n) (contender_count m n) slot (degree_lt n) (contenders_lt n) h i (omega arith)

  rows_short : (slots : ℕ → ℕ) (k : ℕ) → k ≤ 64 → ((i : ℕ) → i < k → slots i < 100) → length (rows m slots k) ≤ 12 * k
  rows_short slots k l h =
      lines_short (λ n. row_line (columns m n (slots n))) 12 k
      (λ n q. row_short 2 (columns m n (slots n)) (omega arith) (omega arith) (columns_lt n (slots n) (omega arith) (h n q)))

  pub overview_short : length (overview m) ≤ 1024
  overview_short =
      let k = m.most in
      let f = max_le (slot_of m) (nodes m) 64 (λ i l. slot_le m i l) in
      let r = rows_short (slot_of m) (nodes m) m.most (λ i l. let s = slot_le m i l in omega arith) in
      let t = totals_short 4 (sizes m) (frame m) (omega arith) (omega arith) (omega arith) (omega arith)
      (three 10000 (nodes m) (link_count m) (contending_pairs m) (omega arith) (pairs_lt (linked m)) (pairs_lt (contend m))) (omega arith) in
      let e = length-append (rows m (slot_of m) (nodes m)) (totals (sizes m) (Ok (Accepted (frame m)))) in
      omega arith
