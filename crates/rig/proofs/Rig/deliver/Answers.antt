use Rattle.std.proofs.Common.{rules}
use Rattle.rig.proofs.Keeps.{delivered_lawful}
use Rattle.rig.proofs.Rig.deliver.Goals as goal

pub returns-in-Some-clause-lawful : goal.returns-in-Some-clause-lawful
returns-in-Some-clause-lawful g c =
    let r = g.R.Radio in
    let rig = c.args.self.now in
    delivered_lawful r.ways rig.map rig.nodes _ _ _ rig.calm (r.ways.taken (r.state c.args.radio.now)) _ (search rules) (search rules) (search rules)
