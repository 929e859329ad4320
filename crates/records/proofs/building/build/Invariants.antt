use Rattle.map.specs.View.{net}
use Rattle.records.proofs.Fronts.{Reached}
use Rattle.records.proofs.building.build.Given as goal

abbrev pub invariant-loop-record : goal.invariant-loop-record
invariant-loop-record l = Reached l.job l.reader (net l.map)
