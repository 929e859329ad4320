use Rattle.bounded.proofs.Places.{removed}
use Rattle.bounded.proofs.Bounded.remove.Goals as goal

pub returns-then-place-self : goal.returns-then-place-self
returns-then-place-self g c =
    let b = c.args.self.now in
    removed b.items g.row.N b.len b.full b.within c.copy_within.new.self c.args.place c.if-place-self.true c.copy_within.ensures.after
