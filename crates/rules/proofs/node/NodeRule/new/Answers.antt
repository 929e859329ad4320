use Rattle.std.proofs.Common.{refl}
use Rattle.map.proofs.Contends.{contend_decides}
use Rattle.rules.proofs.node.NodeRule.new.Goals as goal

pub returns : goal.returns
returns c = record { map = refl; clash = contend_decides c.args.map.now }
