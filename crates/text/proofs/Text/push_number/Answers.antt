use Rattle.std.proofs.Common.{ℕ, List, ◌++◌, sym, ap, ◌∙◌, arith}
use Rattle.std.proofs.lemmas.Fmt.{decimal_digit}
use Rattle.text.specs.Written.{clip, written}
use Rattle.text.proofs.Text.push_number.Goals as goal

pub returns-then-n-lt10 : goal.returns-then-n-lt10
returns-then-n-lt10 c = c.push.ensures ∙ ap (λ (x : List ℕ). clip (written c.args.self.now ++ x)) (sym (decimal_digit c.args.n (omega arith)))
