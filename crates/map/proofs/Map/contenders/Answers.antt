use Rattle.std.proofs.Common.{◌≡◌, ℕ, Bool, ◌||◌, filter, refl, ap, ◌∙◌, rules, tests}
use Rattle.std.specs.List.{list_any, range_with_len}
use Rattle.std.proofs.lemmas.Bool.Decides.{Decides-at}
use Rattle.marks.specs.View.{marked}
use Rattle.marks.proofs.Sets.{or_none}
use Rattle.marks.proofs.Ranges.{fold_of_filtered}
use Rattle.map.specs.View.{nodes, linked, contend}
use Rattle.map.proofs.Near.{gathered, one_more}
use Rattle.map.proofs.Contends.{contend_decides, contend_swap, contend_itself}
use Rattle.map.proofs.Counts.{size_contenders}
use Rattle.map.proofs.Map.contenders.Goals as goal

pub returns : goal.returns
returns c =
    let m = c.args.self.now in
    let n = c.args.n in
    let near = c.neighbours-near.result in
    let all : (b : ℕ) → marked c.fold.result b ≡ (marked near b || list_any (λ k. linked m k b) (filter (marked near) (range_with_len 0 (nodes m)))) =
    fold_of_filtered (marked near) (nodes m) (λ ys s. (b : ℕ) → marked s b ≡ (marked near b || list_any (λ k. linked m k b) ys)) near c.fold.result c.fold.ensures.ran (cc) c.filter.ensures.closure
    (λ x b q k. search (rules, tests)) (λ ys a x u q h k.
    let e : (b : ℕ) → marked u b ≡ (marked a b || linked m x b) = λ b. search (rules, tests) in (
      (λ b. e b ∙ ap (λ (y : Bool). y || linked m x b) (h b) ∙ one_more (marked near b) (λ i. linked m i b) ys x),
      search rules,
    )) (λ b. or_none (marked near b) refl) in
    let reached : (b : ℕ) → marked c.without.result b ≡ contend m n b = λ b. gathered m n b (marked near) (marked c.fold.result b) _ c.neighbours-near.ensures.marks (all b) (c.without.ensures.marks b) in
    record {
      marks = λ b. Decides-at (marked c.without.result b) (contend m n b) (reached b) (contend_decides m n b);
      len = size_contenders m n c.without.result reached;
      swaps = contend_swap m;
      apart = contend_itself m;
    }
