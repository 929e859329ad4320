use Rattle.job.proofs.Ends.{printed}
use Rattle.job.proofs.running.print.Goals as goal

pub returns : goal.returns
returns c = printed c.args.job.now c.listed.result c.unwrap_or_else.result c.listed.ensures c.unwrap_or_else.ensures
