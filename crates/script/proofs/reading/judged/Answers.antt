use Rattle.std.proofs.Common.{rules, refl}
use Rattle.script.proofs.Drafts.{first_good, first_bad, next_good, next_bad, all_good}
use Rattle.script.proofs.reading.judged.Goals as goal

pub returns-in_err-map : goal.returns-in_err-map
returns-in_err-map c = rw c.from_residual-in_err-map.ensures (first_bad refl c.in_ok-first.ensures.steps c.requires c.in_err-map.ensures)

pub loop-record-init : goal.loop-record-init
loop-record-init c = let o = c.in_ok-map.ensures in first_good refl c.in_ok-first.ensures.steps c.in_ok-map.map c.requires o.0 o.1

pub returns-in_err-take : goal.returns-in_err-take
returns-in_err-take c =
    let e = c.in_err-take.ensures in
    rw c.from_residual-in_err-take.ensures (next_bad c.loop-record.invariant c.in-Some.ensures.steps (search rules))

pub loop-record-preserved : goal.loop-record-preserved
loop-record-preserved c =
    let e = c.in_ok-take.ensures in
    next_good c.loop-record.invariant c.in-Some.ensures.steps c.take.new.self (search rules) e.after

pub returns : goal.returns
returns c = all_good c.loop-record.invariant c.in_default.ensures.steps
