use Rattle.std.proofs.Common.{◌^◌, ◌<◌, arith}
use Rattle.marks.specs.View.{bit}
use Rattle.marks.proofs.Digits.{bit_past, bit_without, without_lt}
use Rattle.marks.proofs.Sets.{is_collect, unmarked}
use Rattle.marks.proofs.Marks.without.Goals as goal

pub returns-then-i-lt-LIMIT : goal.returns-then-i-lt-LIMIT
returns-then-i-lt-LIMIT c =
    let a = c.args.self.bits in
    let i = c.args.i in
    let l : i < 64 = omega arith in
    let h : a < 2 ^ 64 = omega arith in
    record { value = is_collect _ _ (without_lt a _ h) (λ j _. bit_without a i j l h); marks = λ j. bit_without a i j l h }

pub returns-else-i-lt-LIMIT : goal.returns-else-i-lt-LIMIT
returns-else-i-lt-LIMIT c =
    let a = c.args.self.bits in
    let h : a < 2 ^ 64 = omega arith in
    let f = unmarked (bit a) c.args.i (bit_past a 64 c.args.i h (omega arith)) in
    record { value = is_collect c.args.self _ h (λ j _. f j); marks = f }
