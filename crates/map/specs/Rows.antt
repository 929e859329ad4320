-- Rows of marks as a relation among the nodes, and what a map's type keeps of its rows.
use Rattle.std.specs.Prelude.{◌≡◌, ℕ, ◌<◌, Bool, true, false, List, slice_index_or}
use Rattle.marks.specs.View.{marked}
use Rattle.marks.specs.Sets.{none}
use Rattle.marks.specs.declared.Marks.{Marks}

-- the row of a has the mark b
abbrev pub has : List Marks → ℕ → ℕ → Bool
has rows a b = marked (slice_index_or rows a none) b

-- every link goes both ways
abbrev pub Mutual : List Marks → Type 0
Mutual rows = (a b : ℕ) → has rows a b ≡ has rows b a

-- no node is linked to itself
abbrev pub Apart : List Marks → Type 0
Apart rows = (a : ℕ) → has rows a a ≡ false

-- only nodes below the count are linked
abbrev pub Within : ℕ → List Marks → Type 0
Within count rows = (a b : ℕ) → has rows a b ≡ true → a < count
