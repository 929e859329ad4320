-- Every two of so many nodes linked.
use Rattle.std.specs.Prelude.{ℕ, not, ◌&&◌, ◌==◌, nat_lt}
use Rattle.map.specs.View.{Net}

-- n nodes, of which every two different ones are linked
abbrev pub complete : ℕ → Net
complete n = record { size = n; links = λ x y. not (x == y) && (nat_lt x n && nat_lt y n) }
