use Rattle.std.proofs.Common.{◌≡◌, ℕ, ◌<◌, ◌++◌, List, sym, ap, ◌∙◌, arith}
use Rattle.text.specs.Written.{written, clip, row_line}
use Rattle.text.specs.declared.Text.{Text}
use Rattle.text.proofs.Clip.{written_short}
use Rattle.text.proofs.Lines.{lines_none, lines_more}
use Rattle.map.specs.View.{nodes}
use Rattle.rig.specs.Calm.{at}
use Rattle.job.specs.Listing.{columns}
use Rattle.job.proofs.Rooms.{told_is, told_ok}
use Rattle.job.proofs.listing.push_rows.Goals as goal
use Rattle.job.proofs.listing.push_rows.Goals.{in-Ok, in_default}

pub loop-k-init : goal.loop-k-init
loop-k-init c = lines_none _ (written c.args.text.now) (written_short c.args.text.now)

pub loop-k-preserved : goal.loop-k-preserved
loop-k-preserved c =
    let rig = c.args.rig.now in
    let k = c.loop-k.k in
    let below : k < nodes rig.map = omega (arith, c.count-k-end.ensures, ap nodes c.map.ensures) in
    elim c.match-columns.branch [
      | in-Ok w ↦
          let is : w.in-Ok.numbers ≡ columns k (at rig.nodes k) = told_is rig k (columns k) w.in-Ok.numbers below (sym w.in-Ok.is ∙ c.columns.ensures) in
          ap (λ (t : Text). written t) w.text-is
          ∙ lines_more _ (written c.args.text.now) (written c.loop-k.text) (written w.push_row.new.self) k c.loop-k.invariant (w.push_row.ensures ∙ ap (λ (xs : List ℕ). clip (written c.loop-k.text ++ row_line xs)) is)
      | in_default w ↦ absurd (w.in_default.not-Ok (columns k (at rig.nodes k)) (c.columns.ensures ∙ told_ok rig k (columns k) below))
    ]
