use Rattle.rules.specs.Pairs.{LinksTo}
use Rattle.rules.proofs.link.LinkRule.new.Given as goal

abbrev pub invariant-loop-a : goal.invariant-loop-a
invariant-loop-a l = LinksTo l.map l.pairs l.a-index
