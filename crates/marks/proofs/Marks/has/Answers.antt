use Rattle.std.proofs.Common.{ℕ, ◌^◌, ◌<◌, ◌≤◌, eqb, sym, ap, ◌∙◌, arith}
use Rattle.std.proofs.lemmas.Nat.Bits.{shr_and_one}
use Rattle.std.proofs.lemmas.Bool.{le-ltb}
use Rattle.marks.specs.View.{bit}
use Rattle.marks.proofs.Digits.{bit_past}
use Rattle.marks.proofs.Marks.has.Goals as goal

pub returns-then-i-lt-LIMIT : goal.returns-then-i-lt-LIMIT
unfolding bit
returns-then-i-lt-LIMIT c = ap (λ (x : ℕ). eqb x 1) (shr_and_one c.args.self.bits c.args.i)

pub returns-else-i-lt-LIMIT : goal.returns-else-i-lt-LIMIT
returns-else-i-lt-LIMIT c =
    let l : 64 ≤ c.args.i = omega arith in
    let h : c.args.self.bits < 2 ^ 64 = omega arith in
    le-ltb c.args.i 64 l ∙ sym (bit_past c.args.self.bits 64 c.args.i h l)
