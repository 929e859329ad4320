use Rattle.std.proofs.Common.{◌≡◌, ℕ, ◌<◌, false, ◌⊎◌, sym, ◌∙◌, ap₂, subst, inl, inr, ⊎_elim, arith}
use Rattle.std.specs.Result.{OkIff}
use Rattle.std.proofs.lemmas.Bool.{cases_lt}
use Rattle.std.proofs.lemmas.Bool.Decides.{same_from_decides}
use Rattle.map.specs.View.{contend}
use Rattle.map.specs.declared.Map.{Map}
use Rattle.map.proofs.Contends.{contend_decides, contend_mutual, contend_past}
use Rattle.rules.proofs.node.making.NodeRuleClashRule.clashes.Goals as goal

pub returns-in-Ok-Ok : goal.returns-in-Ok-Ok
returns-in-Ok-Ok c =
    let m = c.args.self.now.map.now in
    c.has.ensures ∙ same_from_decides _ _ (c.contenders.ensures.marks c.in-Ok-Ok.b) (contend_decides m c.in-Ok-Ok.a c.in-Ok-Ok.b)
    ∙ ap₂ (contend m) c.in-Ok-Ok.ensures.1 c.in-Ok-Ok.ensures'.1

-- no number past a byte is a node
past : (m : Map) (a b : ℕ) → (a < 256 → ⊥) ⊎ (b < 256 → ⊥) → false ≡ contend m a b
past m a b (inl l) = sym (contend_mutual m a b ∙ contend_past m b a (let k = m.most in ⊎_elim (λ h. absurd (l h)) (λ h. omega arith) (cases_lt a 256)))
past m a b (inr l) = sym (contend_past m a b (let k = m.most in ⊎_elim (λ h. absurd (l h)) (λ h. omega arith) (cases_lt b 256)))

pub returns-in_default : goal.returns-in_default
returns-in_default c = past c.args.self.now.map.now c.args.a c.args.b (inr c.in_default.ensures')

pub returns-in_default-2 : goal.returns-in_default-2
returns-in_default-2 c = past c.args.self.now.map.now c.args.a c.args.b (inl (subst (λ r. OkIff r (c.args.a < 256) c.args.a) c.in_default.is-0 c.try_from.ensures))
