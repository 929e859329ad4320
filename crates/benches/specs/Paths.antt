-- The path 0–1–2–.. of so many nodes.
use Rattle.std.specs.Prelude.{ℕ, zero, suc, ◌-◌}
use Rattle.map.specs.View.{Net}
use Rattle.map.specs.Calls.{bare, linked_up}

-- n nodes, of which the first k links of the path are there: 0–1, 1–2, .. and the last to node k
abbrev pub line : ℕ → ℕ → Net
line n zero = bare n
line n (suc k) = linked_up (line n k) k (suc k)

abbrev pub path : ℕ → Net
path n = line n (n - 1)
