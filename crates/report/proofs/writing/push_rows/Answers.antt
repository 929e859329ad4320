use Rattle.std.proofs.Common.{◌≡◌, ℕ, List, ◌++◌, ap, ◌∙◌, arith}
use Rattle.map.specs.View.{nodes}
use Rattle.schedule.specs.Order.{entries}
use Rattle.text.specs.Written.{written, clip, row_line}
use Rattle.text.proofs.Clip.{written_short}
use Rattle.text.proofs.Lines.{lines_none, lines_more}
use Rattle.report.specs.Overview.{columns, rows}
use Rattle.report.proofs.writing.push_rows.Goals as goal

pub loop-n-init : goal.loop-n-init
loop-n-init c = lines_none _ (written c.args.text.now) (written_short c.args.text.now)

pub loop-n-preserved : goal.loop-n-preserved
loop-n-preserved c =
    let n = c.loop-n.n in
    let row = c.columns.ensures ∙ ap (λ (k : ℕ). columns c.args.map.now n (entries c.args.slots.now k)) c.from.ensures in
    lines_more _ (written c.args.text.now) (written c.loop-n.text) (written c.push_row.new.self) n c.loop-n.invariant
    (c.push_row.ensures ∙ ap (λ (xs : List ℕ). clip (written c.loop-n.text ++ row_line xs)) row)

pub returns : goal.returns
returns c =
    let e : c.loop-n.n ≡ nodes c.args.map.now = omega (arith, c.count-n-end.ensures) in
    c.loop-n.invariant ∙ ap (λ (k : ℕ). clip (written c.args.text.now ++ rows c.args.map.now (entries c.args.slots.now) k)) e
