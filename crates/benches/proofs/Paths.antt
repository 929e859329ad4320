-- One link more of a path.
use Rattle.std.proofs.Common.{◌≡◌, ℕ, zero, suc, ◌+◌, ◌-◌, ◌<◌, Result, sym, refl, ap, ◌∙◌, add-one, arith}
use Rattle.refusal.specs.declared.Refusal.{Refusal}
use Rattle.map.specs.Calls.{linked_up, linking, Left}
use Rattle.map.specs.View.{Net, net, nodes}
use Rattle.map.specs.declared.Map.{Map}
use Rattle.benches.specs.Paths.{line}
use Rattle.benches.proofs.Links.{link_made}

line-size : (n k : ℕ) → (line n k).size ≡ n
line-size n zero = refl
line-size n (suc k) = line-size n k

pub line_more : (n a : ℕ) (before after : Map) (r : Result (Unit {0}) Refusal) → a < n - 1 → net before ≡ line n a
    → r ≡ linking (nodes before) a (a + 1) → Left r (linked_up (net before) a (a + 1)) before after → net after ≡ line n (a + 1)
line_more n a before after r h e is left =
    let size : nodes before ≡ n = ap (λ (x : Net). x.size) e ∙ line-size n a in
    link_made n a (a + 1) before after r size (omega arith) (omega arith) (λ z. omega arith) is left
    ∙ ap (λ (x : Net). linked_up x a (a + 1)) e
    ∙ ap (λ (x : ℕ). linked_up (line n a) a x) (add-one a)
    ∙ ap (line n) (sym (add-one a))
