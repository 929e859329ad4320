-- What a text holds, and the lines that are written to it.
use Rattle.std.specs.Prelude.{ℕ, zero, suc, List, [], ◌∷◌, ◌++◌, take, codes, decimal}
use Rattle.std.specs.List.{flat_map}
use Rattle.std.specs.Option.{option_to_list}
use Rattle.refusal.specs.declared.Refusal.{Refusal}
use Rattle.refusal.specs.Entry.{entry}
use Rattle.bounded.specs.Held.{held}
use Rattle.text.specs.declared.Text.{Text}

-- the bytes written so far
abbrev pub written : Text → List ℕ
written t = held t.bytes

-- what there is space for: 1024 bytes
abbrev pub clip : List ℕ → List ℕ
clip bytes = take 1024 bytes

-- each number after one space (32)
abbrev pub spaced : List ℕ → List ℕ
spaced numbers = flat_map (λ n. 32 ∷ decimal n) numbers

-- the rest of a line: the numbers, then a line feed (10)
abbrev pub line_end : List ℕ → List ℕ
line_end numbers = spaced numbers ++ (10 ∷ [])

-- a line of numbers, one space (32) between two; no numbers have no line
abbrev pub row_line : List ℕ → List ℕ
row_line [] = []
row_line (n ∷ ns) = decimal n ++ line_end ns

-- the line of each row
abbrev pub table : List (List ℕ) → List ℕ
table rows = flat_map row_line rows

-- the lines of the numbers below k, by rising number
unfoldable pub lines : (ℕ → List ℕ) → ℕ → List ℕ
lines line zero = []
lines line (suc k) = lines line k ++ line k

-- the line of a refusal: its number and, where it has one, its index
abbrev pub refused_line : Refusal → List ℕ
refused_line e = codes "refused" ++ line_end ((entry e).number ∷ option_to_list (entry e).index)
