-- A link between two different nodes of the map is made.
use Rattle.std.proofs.Common.{◌≡◌, ℕ, ◌<◌, true, false, eqb, ltb, ◌≢◌, Ok, Result, ap, ◌∙◌, subst}
use Rattle.std.proofs.lemmas.Bool.{lt-ltb, ne_eqb}
use Rattle.refusal.specs.declared.Refusal.{Refusal}
use Rattle.map.specs.Calls.{linked_up, linking, Left}
use Rattle.map.specs.View.{net, nodes}
use Rattle.map.specs.declared.Map.{Map}

allowed : (n a b : ℕ) → a < n → b < n → a ≢ b → linking n a b ≡ Ok tt
allowed n a b h k d =
    let x : ltb a n ≡ true = lt-ltb a n h in
    let y : ltb b n ≡ true = lt-ltb b n k in
    let z : eqb a b ≡ false = ne_eqb a b d in
    simp (x, y, z)

pub link_made : (n a b : ℕ) (before after : Map) (r : Result (Unit {0}) Refusal) → nodes before ≡ n → a < n → b < n → a ≢ b
    → r ≡ linking (nodes before) a b → Left r (linked_up (net before) a b) before after → net after ≡ linked_up (net before) a b
link_made n a b before after r size h k d is left =
    let ok : r ≡ Ok tt = is ∙ ap (λ (x : ℕ). linking x a b) size ∙ allowed n a b h k d in
    subst (λ (x : Result (Unit {0}) Refusal). Left x (linked_up (net before) a b) before after) ok left
