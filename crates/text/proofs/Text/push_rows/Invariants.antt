use Rattle.std.proofs.Common.{◌≡◌, ◌++◌, take}
use Rattle.text.specs.Written.{written, clip, table}
use Rattle.text.proofs.Text.push_rows.Given as goal

abbrev pub invariant-loop-row : goal.invariant-loop-row
invariant-loop-row g l = written l.self ≡ clip (written l.initial.self ++ table (take l.row-index l.rows))
