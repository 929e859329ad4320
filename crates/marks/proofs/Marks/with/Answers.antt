use Rattle.std.proofs.Common.{◌^◌, ◌<◌, ◌≤◌, Bool, ◌&&◌, ◌||◌, eqb, sym, ap, ◌∙◌, arith}
use Rattle.std.proofs.lemmas.Bool.{lt-ltb, le-ltb, ne_eqb}
use Rattle.marks.specs.View.{bit}
use Rattle.marks.proofs.Digits.{bit_with, with_lt}
use Rattle.marks.proofs.Sets.{is_collect, or_none}
use Rattle.marks.proofs.Marks.with.Goals as goal

pub returns-then-i-lt-LIMIT : goal.returns-then-i-lt-LIMIT
returns-then-i-lt-LIMIT c =
    let a = c.args.self.bits in
    let i = c.args.i in
    let l : i < 64 = omega arith in
    let h : a < 2 ^ 64 = omega arith in
    record {
      value = is_collect _ _ (with_lt a i h) (λ j _. bit_with a i j l);
      marks = λ j. bit_with a i j l ∙ ap (λ (x : Bool). bit a j || (x && eqb j i)) (sym (lt-ltb i 64 l));
    }

pub returns-else-i-lt-LIMIT : goal.returns-else-i-lt-LIMIT
returns-else-i-lt-LIMIT c =
    let a = c.args.self.bits in
    let i = c.args.i in
    let l : 64 ≤ i = omega arith in
    let h : a < 2 ^ 64 = omega arith in
    record {
      value = is_collect c.args.self _ h (λ j k. or_none (bit a j) (ne_eqb j i (λ e. omega arith)));
      marks = λ j. or_none (bit a j) (ap (λ (x : Bool). x && eqb j i) (le-ltb i 64 l));
    }
