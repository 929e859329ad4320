use Rattle.std.proofs.Common.{◌≡◌, ◌<◌, ◌≤◌, length, get_or, replicate, ◌⊎◌, ⊎_elim, sym, refl, ◌∙◌, inl, inr, arith, length-set, get_or-set_other, get_or-set_same, below_more}
use Rattle.std.proofs.lemmas.Bool.{cases_lt}
use Rattle.std.proofs.lemmas.List.{get_or_past, get_or-replicate}
use Rattle.host.proofs.widened.Goals as goal

pub loop-i-init : goal.loop-i-init
loop-i-init c = (
  refl,
  λ k l. absurd (let z : ⊥ = omega arith in z),
  λ k _. ⊎_elim (λ h. get_or-replicate 64 k 0 0 h) (λ h. get_or_past (replicate 64 0) k 0 h) (cases_lt k 64),
)

pub loop-i-preserved : goal.loop-i-preserved
loop-i-preserved c =
    let was = c.loop-i.invariant in
    let long = was.0 in (
      simp length-set was.0,
      below_more _ _ (λ k h. get_or-set_other c.loop-i.wide c.loop-i.i k c.from.result 0 (λ e. omega arith) ∙ was.1 k h)
          (get_or-set_same c.loop-i.wide c.loop-i.i c.from.result 0 (omega arith) ∙ c.from.ensures),
      λ k h. get_or-set_other c.loop-i.wide c.loop-i.i k c.from.result 0 (λ e. omega arith) ∙ was.2 k (omega arith),
    )

pub returns-clause-same : goal.returns-clause-same
returns-clause-same c k l = go (cases_lt k (length c.args.slots.now))
  where
    go : (k < length c.args.slots.now) ⊎ (length c.args.slots.now ≤ k) → get_or c.loop-i.wide k 0 ≡ get_or c.args.slots.now k 0
    go (inl h) = c.loop-i.invariant.1 k (omega arith)
    go (inr h) = c.loop-i.invariant.2 k (omega arith) ∙ sym (get_or_past c.args.slots.now k 0 h)
