use Rattle.std.proofs.Common.{◌∙◌}
use Rattle.radio.specs.Ways.{AirRule}
use Rattle.law.proofs.Law.{every_run}
use Rattle.runs.proofs.Audits.{audit_is}
use Rattle.runs.proofs.auditing.audit.Goals as goal

pub returns : goal.returns
returns g c =
    let met = g.met.R.Radio in
    let rule : AirRule g.R.Radio.ways = record { put_air = met.put_air; take_air = met.take_air; taken_air = met.taken_air } in
    record {
      audited = audit_is g.R.Radio.ways rule c.args.rig.now _ c.new.result.map.now c.slots-slots.result c.check.result (c.new.ensures.map ∙ c.map-map.ensures) c.slots-slots.ensures c.check.ensures;
      law = every_run g.R.Radio.ways rule _ _ _;
    }
