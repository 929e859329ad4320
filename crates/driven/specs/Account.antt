-- The account of a drive: a line for each node with its slot by the drive and by the planner, and the totals; or the line of a refusal.
use Rattle.std.specs.Prelude.{◌≡◌, ℕ, ◌*◌, ◌⊎◌, List, [], ◌∷◌, ◌++◌, Ok, Err}
use Rattle.refusal.specs.declared.Refusal.{Refusal}
use Rattle.map.specs.View.{nodes, link_count}
use Rattle.map.specs.declared.Map.{Map}
use Rattle.records.specs.Build.{Built}
use Rattle.schedule.specs.declared.checking.Verdict.TheVariants.{Accepted}
use Rattle.text.specs.Written.{row_line, lines, refused_line}
use Rattle.report.specs.Overview.{slot_of, frame, totals}

-- the numbers of a node's line: node, the drive's slot, the planner's slot
abbrev pub columns : ℕ → ℕ → ℕ → List ℕ
columns n driven planned = n ∷ (driven ∷ (planned ∷ []))

-- the lines of the nodes below k, by rising number, with the slots that the drive and the planner give them
abbrev pub rows : (ℕ → ℕ) → (ℕ → ℕ) → ℕ → List ℕ
rows driven planned k = lines (λ n. row_line (columns n (driven n) (planned n))) k

-- the slots that the drive in rising order gives the nodes, and those that the planner gives them: both are RAND's
abbrev pub drive_slot : Map → ℕ → ℕ
drive_slot m = slot_of m

abbrev pub plan_slot : Map → ℕ → ℕ
plan_slot m = slot_of m

-- six deliveries for each link
abbrev pub deliveries_of : Map → ℕ
deliveries_of m = 6 * link_count m

-- the numbers of the last line: links, and deliveries that brought a message
abbrev pub sizes : Map → List ℕ
sizes m = link_count m ∷ (deliveries_of m ∷ [])

-- the slots of a drive are always accepted
abbrev pub account : Map → List ℕ
account m = rows (drive_slot m) (plan_slot m) (nodes m) ++ totals (sizes m) (Ok (Accepted (frame m)))

-- what is printed of a job: the account of the drive of the map that it describes, or why it is refused
abbrev pub Reported : List ℕ → List ℕ → Type 0
Reported job text =
    ((m : Map) × Built job (Ok m) × (text ≡ account m)) ⊎ ((e : Refusal) × Built job (Err e) × (text ≡ refused_line e))
