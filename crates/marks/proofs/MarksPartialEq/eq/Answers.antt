use Rattle.std.proofs.Common.{arith}
use Rattle.marks.specs.Equal.{eq_tells_same}
use Rattle.marks.proofs.MarksPartialEq.eq.Goals as goal

pub returns-clause-same : goal.returns-clause-same
returns-clause-same c = eq_tells_same c.args.self.now c.args.other.now (omega arith) (omega arith)
