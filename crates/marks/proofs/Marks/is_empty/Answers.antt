use Rattle.std.proofs.Common.{ℕ, ◌^◌, ◌<◌, sym, ap, ◌∙◌, arith}
use Rattle.std.proofs.lemmas.Bool.Decides.{Decides-eqb, Decides-like, same_from_decides}
use Rattle.std.proofs.lemmas.Nat.{zero_from_ones}
use lib.Count.{ones}
use Rattle.marks.specs.View.{marked, size}
use Rattle.marks.specs.Sets.{none}
use Rattle.marks.specs.declared.Marks.{Marks}
use Rattle.marks.proofs.Digits.{ones_count}
use Rattle.marks.proofs.Sets.{same_marks, marked-none}
use Rattle.marks.proofs.Marks.is_empty.Goals as goal

pub returns : goal.returns
unfolding ones
returns c =
    let m = c.args.self in
    let h : m.bits < 2 ^ 64 = omega arith in
    let count = ones_count 64 m.bits h in
    let word = Decides-eqb m.bits 0 in
    record {
      marks = Decides-like _ (λ e j. ap (λ (n : ℕ). marked (record { bits = n }) j) e ∙ marked-none j)
          (λ f. ap (λ (x : Marks). x.bits) (same_marks m none h (omega arith) (λ j _. f j ∙ sym (marked-none j)))) word;
      len = same_from_decides _ _ word (Decides-like _ (λ e. zero_from_ones m.bits (count ∙ e)) (λ e. sym count ∙ ap ones e) (Decides-eqb (size m) 0));
    }
