-- A nudge keeps the invariant.
use Rattle.std.proofs.Common.{◌≡◌, ℕ, not, ltb, refl, arith}
use Rattle.std.proofs.lemmas.Bool.{and_parts, cond_both}
use Rattle.marks.specs.View.{marked}
use Rattle.map.specs.View.{linked, nodes}
use Rattle.map.specs.declared.Map.{Map}
use Rattle.rig.specs.declared.node.Phase.{Phase}
use Rattle.rig.specs.declared.node.Phase.TheVariants.{Idle, Request, Grant, Release}
use Rattle.rig.specs.Calm.{at}
use Rattle.rig.specs.Board.{Board}
use Rattle.rig.specs.Steps.{unmarked, nudges, nudged, request}
use Rattle.law.proofs.Sends.{each_in, request_true, grant_true}
use Rattle.law.proofs.Boards.{Fine, Good, good_stay, good_refused, one_sent}

module _ (m : Map) (b : Board) (f : Fine m b) where
  good_nudges : (k : ℕ) → (p : Phase) → (at b k).phase ≡ p → Good m b (nudges m b k p)
  good_nudges k Idle e = good_refused m b f _
  good_nudges k Request e =
      good_stay m b _ f refl (λ x i.
      let (j, open', d) = each_in (unmarked m (at b k) k) (request (at b k).round k) (nodes m) x i in
      let near = (and_parts (linked m k j) (not (marked (at b k).granted j)) open').0 in
      rw d (request_true m (at b) (at b k).round k j near (omega arith)))
  good_nudges k Grant e = good_stay m b _ f refl (one_sent m b _ (grant_true m (at b) f.nodes k (at b k).holder (at b k).term (e, refl, refl)))
  good_nudges k Release e = good_refused m b f _

  pub good_nudged : (k : ℕ) → Good m b (nudged m b k)
  good_nudged k = cond_both (ltb k (nodes m)) _ _ (Good m b) (λ _. good_nudges k (at b k).phase refl) (λ _. good_refused m b f _)
