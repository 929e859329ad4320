use Rattle.std.proofs.Common.{◌≡◌, Bool, true, false, ◌||◌, refl, sym, ap, ◌∙◌}
use Rattle.std.proofs.lemmas.Bool.{or_left}
use Rattle.std.proofs.lemmas.Bool.Decides.{Decides-like}
use Rattle.marks.specs.View.{marked}
use Rattle.marks.specs.declared.Marks.{Marks}
use Rattle.marks.proofs.Marks.is_subset.Goals as goal

added_none : (x y : Bool) → (x ≡ true → y ≡ true) → (x || y) ≡ y
added_none true y f = sym (f refl)
added_none false y f = refl

pub returns : goal.returns
returns c =
    let a = c.args.self in
    let b = c.args.other in
    let u = c.union.result in
    let all = c.union.ensures.marks in
    let same = c.eq.ensures.same in
    Decides-like _ (λ e j t. sym (ap (λ (m : Marks). marked m j) e) ∙ all j ∙ or_left (marked a j) (marked b j) t)
    (λ f. same.value.0 (same.marks.1 (λ j _. all j ∙ added_none (marked a j) (marked b j) (f j)))) same.value
