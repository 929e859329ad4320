use Rattle.std.proofs.Common.{ℕ, List, ◌++◌, decimal, ap, ◌∙◌, sym}
use Rattle.std.proofs.lemmas.List.{nil_from_length}
use Rattle.text.specs.Written.{clip, written, line_end, row_line}
use Rattle.text.proofs.Clip.{and_then, none_yet, written_short}
use Rattle.text.proofs.Text.push_row.Goals as goal

pub returns-in-Some : goal.returns-in-Some
returns-in-Some c =
    let s = written c.args.self.now in
    and_then s (written c.push_number.new.self) (written c.end_line.new.self) (decimal c.in-Some.first.now) (line_end c.in-Some.rest.now) c.push_number.ensures c.end_line.ensures
    ∙ ap (λ (ns : List ℕ). clip (s ++ row_line ns)) (sym c.in-Some.ensures.cases.0)

pub returns-in_default : goal.returns-in_default
returns-in_default c =
    let s = written c.args.self.now in
    none_yet s (written_short c.args.self.now) ∙ ap (λ (ns : List ℕ). clip (s ++ row_line ns)) (sym (nil_from_length c.args.numbers.now c.in_default.ensures.cases))
