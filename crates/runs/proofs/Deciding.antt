-- The node that decides in a call, from the slots before and after it.
use Rattle.std.proofs.Common.{◌≡◌, ℕ, true, not, eqb, Some, None, Option, ⊎_elim}
use Rattle.std.specs.Option.{option_to_list}
use Rattle.std.proofs.lemmas.Bool.{cases_Bool, and_parts, not-true, eqb-true, eqb-false}
use Rattle.map.specs.View.{nodes}
use Rattle.map.specs.declared.Map.{Map}
use Rattle.rig.specs.Board.{Board}
use Rattle.rig.specs.Calm.{at}
use Rattle.rig.specs.Laws.{Decides}
use Rattle.law.specs.Runs.{decides, deciders}
use Rattle.law.proofs.Ranks.{each_none, each_one}
use Rattle.runs.specs.Decider.{Decider}

-- the test says what the relation says
decides_is : (b b' : Board) (k : ℕ) → decides b b' k ≡ true → Decides b b' k
decides_is b b' k t =
    let (u, d) = and_parts (eqb (at b k).slot 0) (not (eqb (at b' k).slot 0)) t in
    (eqb-true (at b k).slot 0 u, eqb-false (at b' k).slot 0 (not-true (eqb (at b' k).slot 0) d))

-- where no two nodes decide, the one that was found is all of them
pub deciders_are : (m : Map) (b b' : Board) (r : Option ℕ) → ((j k : ℕ) → Decides b b' j → Decides b b' k → j ≡ k) → Decider (nodes m) b b' r → deciders m b b' ≡ option_to_list r
deciders_are m b b' None single h = each_none (decides b b') (λ k. k) (nodes m) h
deciders_are m b b' (Some k) single (l, t) =
    each_one (decides b b') (λ i. i) (nodes m) k l t
    (λ i d. ⊎_elim (λ u. absurd (d (single i k (decides_is b b' i u) (decides_is b b' k t)))) (λ f. f) (cases_Bool (decides b b' i)))
