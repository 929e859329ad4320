use Rattle.std.proofs.Common.{ℕ, [], ◌∷◌, ap₂, ◌∙◌}
use Rattle.schedule.specs.Order.{entries}
use Rattle.text.specs.Written.{written}
use Rattle.report.proofs.Plans.{verdict_is}
use Rattle.driven.proofs.Room.{account_made}
use Rattle.driven.proofs.describe.Goals as goal

pub returns : goal.returns
returns c =
    let m = c.args.map.now in
    let drive = c.driven-outcome.result.slots in
    let v = c.check-verdict.result in
    account_made m (entries drive) (entries c.planned.result) c.driven-outcome.ensures.slots c.planned.ensures.slots
    (written c.new-text.result) (written c.push_rows.new.text) (written c.push_totals.new.text) (c.from-links.result ∷ (c.driven-outcome.result.deliveries ∷ [])) v
    c.new-text.ensures (ap₂ (λ (x y : ℕ). x ∷ (y ∷ [])) (c.from-links.ensures ∙ c.links.ensures) c.driven-outcome.ensures.deliveries)
    (verdict_is m c.new.result.map.now drive v c.new.ensures.map c.driven-outcome.ensures.slots c.driven-outcome.ensures.accepted c.check-verdict.ensures)
    c.push_rows.ensures c.push_totals.ensures
