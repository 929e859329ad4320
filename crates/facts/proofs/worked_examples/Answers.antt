use Rattle.std.proofs.Common.{rules}
use Rattle.facts.proofs.Ruling.{ruled}
use Rattle.facts.proofs.worked_examples.Goals as goal

pub returns : goal.returns
returns c = search (rules, ruled)
