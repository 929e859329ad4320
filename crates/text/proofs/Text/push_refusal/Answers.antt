use Rattle.std.proofs.Common.{Some, None, ◌∙◌}
use Rattle.text.specs.Written.{written}
use Rattle.text.proofs.Lines.{refused-line}
use Rattle.text.proofs.Text.push_refusal.Goals as goal

pub returns-in-Some : goal.returns-in-Some
returns-in-Some c =
    refused-line (written c.args.self.now) (written c.push_str.new.self) (written c.end_line.new.self) c.args.refusal c.from-number.result (Some c.in-Some.index)
    (c.from-number.ensures ∙ c.from.ensures) c.in-Some.ensures c.push_str.ensures c.end_line.ensures

pub returns-in-None : goal.returns-in-None
returns-in-None c =
    refused-line (written c.args.self.now) (written c.push_str.new.self) (written c.end_line-in-None.new.self) c.args.refusal c.from-number.result None
    (c.from-number.ensures ∙ c.from.ensures) c.in-None.ensures c.push_str.ensures c.end_line-in-None.ensures
