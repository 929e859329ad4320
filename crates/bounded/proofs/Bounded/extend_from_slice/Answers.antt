use Rattle.std.proofs.Common.{◌+◌, ◌-◌, arith}
use Rattle.bounded.proofs.Places.{extended}
use Rattle.bounded.proofs.Bounded.extend_from_slice.Goals as goal

pub returns : goal.returns
returns g c =
    let b = c.args.self.now in
    extended b.items g.row.N b.len b.full b.within c.args.items.now c.copy_from_slice.new.self c.min-count.result (b.len + c.min-count.result - b.len)
    c.min-count.ensures (omega arith) c.copy_from_slice.ensures.after
