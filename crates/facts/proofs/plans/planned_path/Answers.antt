use Rattle.std.proofs.Common.{replicate, refl, ap, ◌∙◌}
use Rattle.map.specs.View.{net}
use Rattle.facts.proofs.Planning.{plan_is}
use Rattle.facts.proofs.plans.planned_path.Goals as goal

pub returns : goal.returns
returns c =
    let all = plan_is c.new.result.map.now (replicate 4 0) c.plan-answer.new.slots c.plan-answer.result (ap net c.new.ensures.map ∙ c.path-map.ensures) refl c.plan-answer.auto.slots c.plan-answer.ensures.after in
    record { answer = all.0; slots = all.1 }
