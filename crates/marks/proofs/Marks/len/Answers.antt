use Rattle.std.proofs.Common.{◌^◌, ◌<◌, arith}
use Rattle.marks.proofs.Digits.{ones_count}
use Rattle.marks.proofs.Marks.len.Goals as goal

pub returns : goal.returns
returns c =
    let h : c.args.self.bits < 2 ^ 64 = omega arith in
    ones_count 64 c.args.self.bits h
