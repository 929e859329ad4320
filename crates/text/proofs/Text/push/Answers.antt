use Rattle.std.proofs.Common.{◌∙◌}
use Rattle.bounded.proofs.Places.{pushed_clip}
use Rattle.text.specs.Written.{written}
use Rattle.text.proofs.Clip.{written_short}
use Rattle.text.proofs.Text.push.Goals as goal

pub returns : goal.returns
returns c = c.push.ensures ∙ pushed_clip (written c.args.self.now) c.args.byte (written_short c.args.self.now)
