use Rattle.std.proofs.Common.{◌≡◌, ℕ, List, ◌++◌, Ok, Result, ap, ap₂, ◌∙◌}
use Rattle.refusal.specs.declared.Refusal.{Refusal}
use Rattle.map.specs.View.{nodes}
use Rattle.schedule.specs.Order.{entries}
use Rattle.schedule.specs.declared.checking.Verdict.{Verdict}
use Rattle.schedule.specs.declared.checking.Verdict.TheVariants.{Accepted}
use Rattle.text.specs.Written.{written, clip, row_line}
use Rattle.text.proofs.Clip.{and_then, whole}
use Rattle.report.specs.Overview.{slot_of, frame, columns, rows, sizes, totals, overview}
use Rattle.report.proofs.Plans.{verdict_is}
use Rattle.text.proofs.Lines.{lines_like}
use Rattle.report.proofs.Room.{overview_short}
use Rattle.report.proofs.describe.Goals as goal

pub returns : goal.returns
returns c =
    let m = c.args.map.now in
    let slots = c.planned-slots.result in
    let v = c.check-verdict.result in
    let s = written c.new-text.result in
    let mid = written c.push_rows.new.text in
    let last = written c.push_totals.new.text in
    let is : v ≡ Ok (Accepted (frame m)) = verdict_is m c.new.result.map.now slots v c.new.ensures.map c.planned-slots.ensures.slots c.planned-slots.ensures.accepted c.check-verdict.ensures in
    whole s last (overview m) c.new-text.ensures (overview_short m)
    (and_then s mid last (rows m (slot_of m) (nodes m)) (totals (sizes m) (Ok (Accepted (frame m))))
    (c.push_rows.ensures ∙ ap (λ (x : List ℕ). clip (s ++ x)) (lines_like (λ n. row_line (columns m n (entries slots n))) (λ n. row_line (columns m n (slot_of m n))) (nodes m) (λ n l. ap (λ (x : ℕ). row_line (columns m n x)) (c.planned-slots.ensures.slots n l))))
    (c.push_totals.ensures ∙ ap₂ (λ (ns : List ℕ) (x : Result Verdict Refusal). clip (mid ++ totals ns x)) c.sizes.ensures is))
