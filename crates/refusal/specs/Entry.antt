-- The refusals of the kit: the number and the word of each, and the index that a bad record brings.
use Rattle.std.specs.Prelude.{ℕ, true, false, List, Some, None, codes, Option, ◌==◌}
use Rattle.refusal.specs.declared.Refusal.{Refusal}
use Rattle.refusal.specs.declared.Refusal.TheVariants.{Short, Count, Node, SelfLink, Twice, Missing, Unlinked, Settled, Busy, Spent, Quiet, Foreign, Torn, Record}

-- what is told of a refusal
pub record Entry : Type 0 where
  pub number : ℕ
  pub word : List ℕ
  pub index : Option ℕ

abbrev pub plain : ℕ → List ℕ → Entry
plain n w = record { number = n; word = w; index = None }

abbrev pub entry : Refusal → Entry
entry Short = plain 1 (codes "short")
entry Count = plain 2 (codes "count")
entry Node = plain 3 (codes "node")
entry SelfLink = plain 4 (codes "self")
entry Twice = plain 5 (codes "twice")
entry Missing = plain 6 (codes "missing")
entry Unlinked = plain 7 (codes "unlinked")
entry Settled = plain 8 (codes "settled")
entry Busy = plain 9 (codes "busy")
entry Spent = plain 10 (codes "spent")
entry Quiet = plain 11 (codes "quiet")
entry Foreign = plain 12 (codes "foreign")
entry Torn = plain 13 (codes "torn")
entry (Record i) = record { number = 14; word = codes "record"; index = Some i }

-- why a call refuses, by the refusal's number: the reason at that number, and what is said otherwise at any other
abbrev pub Why : ℕ → ℕ → Type 0 → Type 0 → Type 0
Why number at reason otherwise = elim (number == at) [ true ↦ reason | false ↦ otherwise ]
