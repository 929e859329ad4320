use Rattle.std.proofs.Common.{rules, tests, ℕ, ◌<◌, Bool, Ok, Err, MatchBool, refl, subst}
use Rattle.schedule.specs.Rand.{Named, Fine}
use Rattle.schedule.proofs.Repeated.{of_numbers}
use Rattle.drive.specs.Drive.{LeavesOut}
use Rattle.drive.proofs.Whole.{named, all_named}
use Rattle.drive.proofs.ordering.judge.Goals as goal

pub returns-in_err-ordered : goal.returns-in_err-ordered
returns-in_err-ordered c =
    let disordered = of_numbers c.from.result c.args.order.now (Err c.in_err-ordered.field-0.0) c.in_err-ordered.ensures in
    search (rules, disordered)

pub returns-then-all : goal.returns-then-all
returns-then-all c =
    let n = c.args.count in
    let order = c.args.order.now in
    let whole = all_named order n c.all.result c.all.ensures.ran refl (λ x b q k. search (rules, tests, named order x)) in
    record {
      fine = subst (λ (k : ℕ). Fine k order) c.from.ensures (of_numbers c.from.result order (Ok tt) c.in_ok-ordered.ensures);
      all = subst (λ (b : Bool). MatchBool b ((k : ℕ) → k < n → Named order k) (LeavesOut n order)) c.if-all.true whole;
    }

pub returns-else-all : goal.returns-else-all
returns-else-all c =
    let n = c.args.count in
    let order = c.args.order.now in
    let whole = all_named order n c.all.result c.all.ensures.ran refl (λ x b q k. search (rules, tests, named order x)) in (
      subst (λ (k : ℕ). Fine k order) c.from.ensures (of_numbers c.from.result order (Ok tt) c.in_ok-ordered.ensures),
      subst (λ (b : Bool). MatchBool b ((k : ℕ) → k < n → Named order k) (LeavesOut n order)) c.if-all.false whole,
    )
