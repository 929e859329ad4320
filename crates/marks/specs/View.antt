-- What a set of marks holds: the one view by which contracts speak of it.
use Rattle.std.specs.Prelude.{ℕ, ◌/◌, ◌%◌, ◌^◌, ◌<◌, Bool, ◌==◌}
use Rattle.marks.specs.Below.{count_below}
use Rattle.marks.specs.declared.Marks.{Marks}

-- the binary digit i of n is 1
unfoldable pub bit : ℕ → ℕ → Bool
bit n i = n / 2 ^ i % 2 == 1

-- mark i is in the set
abbrev pub marked : Marks → ℕ → Bool
marked m i = bit m.bits i

-- the number of marks in the set
abbrev pub size : Marks → ℕ
size m = count_below (marked m) 64

-- no mark past 63, which every value of the type keeps
abbrev pub Fits : Marks → Type 0
Fits m = m.bits < 2 ^ 64
