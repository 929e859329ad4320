use Rattle.std.proofs.Common.{◌≡◌}
use Rattle.map.specs.View.{net}
use Rattle.benches.proofs.Complete.{so_far}
use Rattle.benches.proofs.full.Given as goal

abbrev pub invariant-loop-b : goal.invariant-loop-b
invariant-loop-b l = net l.map ≡ so_far l.count l.a l.b

abbrev pub invariant-loop-a : goal.invariant-loop-a
invariant-loop-a l = net l.map ≡ so_far l.count l.a 0
