-- The nodes that have decided, counted over the items of a list.
use Rattle.std.proofs.Common.{◌≡◌, ℕ, zero, suc, ◌+◌, ◌≤◌, Bool, length, take, cond, count_by, sym, refl, ap, ◌∙◌, add-one, arith}
use Rattle.std.proofs.lemmas.List.{take_more}
use Rattle.std.proofs.lemmas.List.Sums.{sum_by_push}
use Rattle.marks.specs.Below.{sum_below, count_below}
use Rattle.rig.specs.declared.node.Node.{Node}
use Rattle.rig.specs.Calm.{blank, at}
use Rattle.rig.specs.Board.{Board}

pub count_by-take : (p : Node → Bool) (b : Board) (n : ℕ) → n ≤ length b → count_by p (take n b) ≡ count_below (λ k. p (at b k)) n
unfolding sum_below
count_by-take p b zero l = refl
count_by-take p b (suc n) l =
    ap (λ (k : ℕ). count_by p (take k b)) (sym (add-one n))
    ∙ ap (count_by p) (take_more b n blank (omega arith))
    ∙ sum_by_push (λ v. cond (p v) 1 0) (take n b) (at b n)
    ∙ ap (λ (t : ℕ). t + cond (p (at b n)) 1 0) (count_by-take p b n (omega arith))
