use Rattle.std.proofs.Common.{ap, ◌∙◌}
use Rattle.map.specs.View.{net}
use Rattle.facts.proofs.Checking.{shared_is, apart_is}
use Rattle.facts.proofs.plans.checked_path.Goals as goal

pub returns : goal.returns
returns c =
    let is = ap net c.new-rule.ensures.map ∙ c.path-map.ensures in
    let map = c.new-rule.result.map.now in
    record { shared = shared_is map c.check.result is c.check.ensures; apart = apart_is map c.check-2.result is c.check-2.ensures }
