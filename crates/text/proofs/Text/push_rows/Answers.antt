use Rattle.std.proofs.Common.{ℕ, List, ◌++◌, ap, ◌∙◌, take_all}
use Rattle.text.specs.Written.{written, clip, table}
use Rattle.text.proofs.Clip.{none_yet, written_short}
use Rattle.text.proofs.Lines.{row_more}
use Rattle.text.proofs.Text.push_rows.Goals as goal

pub loop-row-init : goal.loop-row-init
loop-row-init g c = none_yet (written c.args.self.now) (written_short c.args.self.now)

pub loop-row-preserved : goal.loop-row-preserved
loop-row-preserved g c =
    row_more (written c.args.self.now) (written c.loop-row.self) (written c.push_row.new.self) c.args.rows.now c.loop-row.row-index c.row-item.result c.row-item.is
    c.loop-row-test.true c.loop-row.invariant c.push_row.ensures

pub returns : goal.returns
returns g c =
    c.loop-row.invariant
    ∙ ap (λ (rows : List (List ℕ)). clip (written c.args.self.now ++ table rows)) (take_all c.loop-row.row-index c.args.rows.now c.loop-row-test.false)
