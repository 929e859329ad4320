use Rattle.std.proofs.Common.{rules, tests, ◌&&◌, eqb, get_or, length, refl}
use Rattle.marks.proofs.Ranges.{any_below}
use Rattle.schedule.proofs.planning.held.Goals as goal

pub returns : goal.returns
returns g c =
    any_below (λ b. g.C.ClashRule.clash c.args.rule.now c.args.a b && eqb (get_or c.args.slots.now b 0) c.args.slot) (length c.args.slots.now) c.any.result
    c.any.ensures.ran refl (λ x b q k. search (rules, tests))
