use Rattle.std.proofs.Common.{rules}
use Rattle.text.specs.Written.{written}
use Rattle.report.proofs.Told.{told}
use Rattle.driven.specs.Account.{account}
use Rattle.driven.proofs.report.Goals as goal

pub returns : goal.returns
returns c =
    told account c.args.job.now (written c.map_or_else.result) c.build.result _ _ (λ m h. search rules) (λ e h. search rules)
    c.build.ensures c.map_or_else.ensures
