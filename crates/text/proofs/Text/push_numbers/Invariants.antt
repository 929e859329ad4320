use Rattle.std.proofs.Common.{◌≡◌, ◌++◌, take}
use Rattle.text.specs.Written.{written, clip, spaced}
use Rattle.text.proofs.Text.push_numbers.Given as goal

abbrev pub invariant-loop-n : goal.invariant-loop-n
invariant-loop-n l = written l.self ≡ clip (written l.initial.self ++ spaced (take l.n-index l.numbers))
