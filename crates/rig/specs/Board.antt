-- The nodes of a rig as a list, and what is sent to several of them.
use Rattle.std.specs.Prelude.{ℕ, zero, suc, Bool, cond, not, List, [], ◌∷◌, ◌++◌, replicate, ◌==◌, slice_set}
use Rattle.marks.specs.Below.{count_below}
use Rattle.rig.specs.declared.node.Node.{Node}
use Rattle.rig.specs.Calm.{blank, at}

abbrev pub Board : Type 0
Board = List Node

abbrev pub new_board : Board
new_board = replicate 64 blank

-- node k becomes v, and every other node stays
abbrev pub put : Board → ℕ → Node → Board
put b k v = slice_set b k v

-- how many of the nodes below n have decided
abbrev pub decided_count : ℕ → Board → ℕ
decided_count n b = count_below (λ k. not ((at b k).slot == 0)) n

-- one for each number below n that passes, by rising number
unfoldable pub each : {A : Type 0} → (ℕ → Bool) → (ℕ → A) → ℕ → List A
each p f zero = []
each p f (suc n) = each p f n ++ cond (p n) (f n ∷ []) []
