use Rattle.std.proofs.Common.{◌≡◌, ◌++◌}
use Rattle.text.specs.Written.{written, clip}
use Rattle.schedule.specs.Order.{entries}
use Rattle.report.specs.Overview.{rows}
use Rattle.report.proofs.writing.push_rows.Given as goal

abbrev pub invariant-loop-n : goal.invariant-loop-n
invariant-loop-n l = written l.text ≡ clip (written l.initial.text ++ rows l.map (entries l.slots) l.n)
