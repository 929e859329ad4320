use Rattle.std.proofs.Common.{◌^◌, ◌<◌, arith}
use Rattle.std.proofs.lemmas.Nat.{or_lt}
use Rattle.marks.proofs.Digits.{bit-or}
use Rattle.marks.proofs.Sets.{is_collect}
use Rattle.marks.proofs.Marks.union.Goals as goal

pub returns : goal.returns
returns c =
    let a = c.args.self.bits in
    let b = c.args.other.bits in
    let h : a < 2 ^ 64 = omega arith in
    let k : b < 2 ^ 64 = omega arith in
    record { value = is_collect _ _ (or_lt 64 a b h k) (λ j _. bit-or a b j); marks = bit-or a b }
