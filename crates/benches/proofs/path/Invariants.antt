use Rattle.std.proofs.Common.{◌≡◌}
use Rattle.map.specs.View.{net}
use Rattle.benches.specs.Paths.{line}
use Rattle.benches.proofs.path.Given as goal

abbrev pub invariant-loop-a : goal.invariant-loop-a
invariant-loop-a l = net l.map ≡ line l.count l.a
