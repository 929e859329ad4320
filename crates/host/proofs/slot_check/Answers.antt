use Rattle.std.proofs.Common.{◌≡◌, ℕ, List, Result, MatchResult, Ok, Err, ap, ◌∙◌, inl, inr, rules, tests}
use Rattle.refusal.specs.declared.Refusal.{Refusal}
use Rattle.map.specs.View.{contend, nodes}
use Rattle.map.specs.declared.Map.{Map}
use Rattle.records.specs.Build.{Built}
use Rattle.schedule.specs.Sharing.{Checked}
use Rattle.schedule.specs.declared.checking.Verdict.{Verdict}
use Rattle.host.specs.Answer.{Answered, folded}
use Rattle.host.proofs.slot_check.Goals as goal

answered : (job slots : List ℕ) (b : Result Map Refusal) (v : Result Verdict Refusal) (r : ℕ) → Built job b → MatchResult b (λ m. Checked (contend m) (nodes m) slots v) (λ e. v ≡ Err e) → r ≡ folded v → Answered job slots r
answered job slots (Ok m) v r h k e = inl (m, v, h, k, e)
answered job slots (Err x) v r h k e = inr (x, h, e ∙ ap folded k)

pub returns : goal.returns
returns c = answered c.args.job.now c.args.slots.now c.build.result c.and_then.result c.fold.result c.build.ensures (search (rules, tests)) c.fold.ensures
