use Rattle.std.proofs.Common.{rules, ◌≡◌, ℕ, List, length, Ok, Err, Result, sym}
use Rattle.refusal.specs.declared.Refusal.{Refusal}
use Rattle.refusal.specs.declared.Refusal.TheVariants.{Record}
use Rattle.map.specs.View.{net}
use Rattle.map.specs.declared.Map.{Map}
use Rattle.records.specs.Build.{FirstBad, Built}
use Rattle.records.specs.Fields.{length_rule}
use Rattle.records.proofs.Fronts.{opening, unopened, next_good, next_bad}
use Rattle.records.proofs.building.build.Goals as goal

refused : (job : List ℕ) (i : ℕ) (a : Result Map Refusal) → Ok tt ≡ length_rule (length job) → FirstBad job i → a ≡ Err (Record i) → Built job a
refused job i a l b e = rw e (sym l, b)

pub returns-in_err-map : goal.returns-in_err-map
returns-in_err-map c =
    let n = c.new-reader.ensures in
    refused c.args.job.now c.index.result c.from_residual-in_err-map.result c.in_ok-check_length.ensures
    (rw c.index.ensures (unopened n.job n.place c.next.result c.next.ensures.steps (rw c.in_err-map.ensures.ok_part at c.and_then.ensures)))
    (search rules)

pub loop-record-init : goal.loop-record-init
loop-record-init c =
    let n = c.new-reader.ensures in
    opening n.job n.place c.next.result c.in_ok-map.map c.next.ensures.steps (rw c.in_ok-map.ensures.ok_part at c.and_then.ensures)

pub returns-in_err-ok_or : goal.returns-in_err-ok_or
returns-in_err-ok_or c =
    refused c.args.job.now c.index-in-Some.result c.from_residual-in_err-ok_or.result c.in_ok-check_length.ensures
    (rw c.index-in-Some.ensures (next_bad c.loop-record.invariant c.in-Some.ensures.steps (search rules)))
    (search rules)

pub loop-record-preserved : goal.loop-record-preserved
loop-record-preserved c =
    next_good c.loop-record.invariant c.in-Some.ensures.steps (net c.joined.new.map) (search rules)
    (rw c.in_ok-ok_or.ensures.ok_part at c.joined.ensures.after)
