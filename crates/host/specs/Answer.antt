-- The one number that the host's checker answers.
use Rattle.std.specs.Prelude.{◌≡◌, ℕ, ◌+◌, ◌*◌, ◌⊎◌, List, Ok, Err, Result}
use Rattle.refusal.specs.Entry.{entry}
use Rattle.refusal.specs.declared.Refusal.{Refusal}
use Rattle.map.specs.View.{nodes, contend}
use Rattle.map.specs.declared.Map.{Map}
use Rattle.records.specs.Build.{Built}
use Rattle.schedule.specs.Sharing.{Checked}
use Rattle.schedule.specs.declared.checking.Verdict.{Verdict}
use Rattle.schedule.specs.declared.checking.Verdict.TheVariants.{Accepted, Clash}

-- 0 for accepted, 256 a + b for the pair a, b, and 65536 plus a refusal's number
abbrev pub folded : Result Verdict Refusal → ℕ
folded (Ok (Accepted largest)) = 0
folded (Ok (Clash pair)) = 256 * pair.0 + pair.1
folded (Err e) = 65536 + (entry e).number

-- the checker's answer on the map that the job describes and the slot bytes; or why the job is refused
abbrev pub Answered : List ℕ → List ℕ → ℕ → Type 0
Answered job slots r =
    ((m : Map) × (v : Result Verdict Refusal) × Built job (Ok m) × Checked (contend m) (nodes m) slots v × (r ≡ folded v))
    ⊎ ((e : Refusal) × Built job (Err e) × (r ≡ folded (Err e)))
