-- The report on a job: a line for each node of its map, and the totals; or the line of its refusal.
use Rattle.std.specs.Prelude.{◌≡◌, ℕ, ◌⊎◌, List, [], ◌∷◌, ◌++◌, map, Ok, Err, codes, Result}
use Rattle.std.specs.List.{range_with_len}
use Rattle.marks.specs.Below.{max_below}
use Rattle.refusal.specs.Entry.{entry}
use Rattle.refusal.specs.declared.Refusal.{Refusal}
use Rattle.map.specs.View.{nodes, contend, degree, contender_count, pairs, link_count}
use Rattle.map.specs.declared.Map.{Map}
use Rattle.records.specs.Build.{Built}
use Rattle.schedule.specs.Rand.{rand}
use Rattle.schedule.specs.declared.checking.Verdict.{Verdict}
use Rattle.schedule.specs.declared.checking.Verdict.TheVariants.{Accepted, Clash}
use Rattle.text.specs.Written.{spaced, row_line, lines, refused_line}

-- the numbers below n, by rising number
abbrev pub rising : ℕ → List ℕ
rising n = map (λ i. i) (range_with_len 0 n)

-- the slots that RAND gives the nodes in rising order
abbrev pub slot_of : Map → ℕ → ℕ
slot_of m = rand (contend m) (nodes m) (rising (nodes m))

-- the frame's length: the largest of these slots
abbrev pub frame : Map → ℕ
frame m = max_below (slot_of m) (nodes m)

-- how many pairs of nodes contend
abbrev pub contending_pairs : Map → ℕ
contending_pairs m = pairs (contend m) (nodes m)

-- the numbers of a node's line: node, neighbours, contenders, slot
abbrev pub columns : Map → ℕ → ℕ → List ℕ
columns m n slot = n ∷ (degree m n ∷ (contender_count m n ∷ (slot ∷ [])))

-- the lines of the nodes below k, by rising number, with their slots
abbrev pub rows : Map → (ℕ → ℕ) → ℕ → List ℕ
rows m slots k = lines (λ n. row_line (columns m n (slots n))) k

-- the checker's verdict: the largest slot and "accepted", or the pair that clashes, or a refusal
abbrev pub verdict_text : Result Verdict Refusal → List ℕ
verdict_text (Ok (Accepted largest)) = spaced (largest ∷ []) ++ codes " accepted"
verdict_text (Ok (Clash pair)) = codes " clash" ++ spaced (pair.0 ∷ (pair.1 ∷ []))
verdict_text (Err e) = codes " refused" ++ spaced ((entry e).number ∷ [])

-- the last line: numbers, and the verdict
abbrev pub totals : List ℕ → Result Verdict Refusal → List ℕ
totals numbers verdict = codes "total" ++ (spaced numbers ++ (verdict_text verdict ++ (10 ∷ [])))

-- nodes, links and contending pairs
abbrev pub sizes : Map → List ℕ
sizes m = nodes m ∷ (link_count m ∷ (contending_pairs m ∷ []))

-- the slots of the nodes planned in rising order are always accepted
abbrev pub overview : Map → List ℕ
overview m = rows m (slot_of m) (nodes m) ++ totals (sizes m) (Ok (Accepted (frame m)))

-- what is printed of a job: the overview of the map that it describes, or why it is refused
abbrev pub Reported : List ℕ → List ℕ → Type 0
Reported job text =
    ((m : Map) × Built job (Ok m) × (text ≡ overview m)) ⊎ ((e : Refusal) × Built job (Err e) × (text ≡ refused_line e))
