-- What the check of a drive's order answers; for inner functions, no public contract rests on it.
use Rattle.std.specs.Prelude.{ℕ, List, Ok, Err, Result}
use Rattle.refusal.specs.Entry.{entry, Why}
use Rattle.refusal.specs.declared.Refusal.{Refusal}
use Rattle.schedule.specs.Rand.{Fine}
use Rattle.schedule.specs.Order.{Disordered}
use Rattle.drive.specs.Drive.{Whole, LeavesOut}

-- an order of all nodes; or 3 or 5 by its first wrong entry, or else 6 for a node left out
abbrev pub OrderJudged : ℕ → List ℕ → Result (Unit {0}) Refusal → Type 0
OrderJudged n order (Ok _) = Whole n order
OrderJudged n order (Err e) = Why (entry e).number 6 (Fine n order × LeavesOut n order) (Disordered n order (entry e).number)
