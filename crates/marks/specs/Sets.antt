-- Sets of marks as values, each given by its marks.
use Rattle.std.specs.Prelude.{◌≡◌, ℕ, ◌^◌, ◌<◌, Bool, true, false, cond, not, ◌&&◌, ◌||◌, Some, None, Decides, Option, ◌==◌}
use Rattle.marks.specs.Below.{sum_below}
use Rattle.marks.specs.View.{marked}
use Rattle.marks.specs.declared.Marks.{Marks}

-- the set without a mark
abbrev pub none : Marks
none = record { bits = 0 }

-- the set of the numbers below 64 that pass
unfoldable pub collect : (ℕ → Bool) → Marks
collect p = record { bits = sum_below (λ i. cond (p i) (2 ^ i) 0) 64 }

-- and mark i too
abbrev pub added : Marks → ℕ → Marks
added m i = collect (λ j. marked m j || j == i)

-- all but mark i
abbrev pub removed : Marks → ℕ → Marks
removed m i = collect (λ j. marked m j && not (j == i))

-- the marks of either
abbrev pub joined : Marks → Marks → Marks
joined a b = collect (λ j. marked a j || marked b j)

-- the smallest number below 64 whose mark is missing, or none where all are there
abbrev pub FirstMissing : Marks → Option ℕ → Type 0
FirstMissing m None = (j : ℕ) → j < 64 → marked m j ≡ true
FirstMissing m (Some i) = (i < 64) × (marked m i ≡ false) × ((j : ℕ) → j < i → marked m j ≡ true)

-- r tells whether a and b hold the same marks, which is whether they are one value
pub record Same (a b : Marks) (r : Bool) : Type 0 where
  pub marks : Decides r ((j : ℕ) → j < 64 → marked a j ≡ marked b j)
  pub value : Decides r (a ≡ b)
