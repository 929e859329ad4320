use Rattle.std.proofs.Common.{◌≡◌, ℕ, Bool, true, false, List, Ok, ◌∙◌, ap₂}
use Rattle.map.specs.declared.Map.{Map}
use Rattle.rules.specs.Pairs.{link_clash}
use Rattle.facts.proofs.Linking.{near_is, far_is, not_refused}
use Rattle.facts.proofs.plans.linked_path.Goals as goal

pub returns : goal.returns
returns c =
    let made = c.in_ok-rule.ensures.cases in
    let map = c.path-map.result in
    let near : c.clashes.result ≡ true = c.clashes.ensures ∙ ap₂ (λ (m : Map) (ps : List (ℕ × ℕ)). link_clash m ps 0 1) made.2 made.3 ∙ near_is map c.path-map.ensures in
    let far : c.clashes-2.result ≡ false = c.clashes-2.ensures ∙ ap₂ (λ (m : Map) (ps : List (ℕ × ℕ)). link_clash m ps 0 2) made.2 made.3 ∙ far_is map c.path-map.ensures in
    ap₂ (λ (x y : Bool). Ok (record { near = x; far = y })) near far

pub returns-in_err-rule : goal.returns-in_err-rule
returns-in_err-rule c = absurd (not_refused c.path-map.result c.path-map.ensures c.in_err-rule.field-0.0 c.in_err-rule.ensures.cases)
