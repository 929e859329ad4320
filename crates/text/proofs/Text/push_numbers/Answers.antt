use Rattle.std.proofs.Common.{ℕ, List, ◌++◌, ap, ◌∙◌, take_all}
use Rattle.text.specs.Written.{written, clip, spaced}
use Rattle.text.proofs.Clip.{none_yet, written_short}
use Rattle.text.proofs.Lines.{number_more}
use Rattle.text.proofs.Text.push_numbers.Goals as goal

pub loop-n-init : goal.loop-n-init
loop-n-init c = none_yet (written c.args.self.now) (written_short c.args.self.now)

pub loop-n-preserved : goal.loop-n-preserved
loop-n-preserved c =
    number_more (written c.args.self.now) (written c.loop-n.self) (written c.push.new.self) (written c.push_number.new.self) c.args.numbers.now c.loop-n.n-index
    c.loop-n-test.true c.loop-n.invariant c.push.ensures c.push_number.ensures

pub returns : goal.returns
returns c =
    c.loop-n.invariant
    ∙ ap (λ (ns : List ℕ). clip (written c.args.self.now ++ spaced ns)) (take_all c.loop-n.n-index c.args.numbers.now c.loop-n-test.false)
