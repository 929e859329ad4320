use Rattle.std.proofs.Common.{◌≡◌, ◌++◌}
use Rattle.text.specs.Written.{written, clip}
use Rattle.job.specs.Listing.{rows}
use Rattle.job.proofs.listing.push_rows.Given as goal

abbrev pub invariant-loop-k : goal.invariant-loop-k
invariant-loop-k l = written l.text ≡ clip (written l.initial.text ++ rows l.rig.nodes l.k)
