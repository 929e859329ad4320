-- Calls at which no node but one may decide: who decides in them.
use Rattle.std.proofs.Common.{◌≡◌, ℕ, ◌<◌, Bool, true, false, cond, not, ◌&&◌, eqb, List, [], ◌∷◌, ◌++◌, sym, refl, ap, ◌∙◌, ap₂, ⊎_elim, arith}
use Rattle.std.proofs.lemmas.Bool.{both_ways, cases_eq, ne_eqb, eqb-false}
use Rattle.map.specs.View.{nodes}
use Rattle.map.specs.declared.Map.{Map}
use Rattle.rig.specs.Calm.{at}
use Rattle.rig.specs.Board.{Board}
use Rattle.law.specs.Runs.{decides, deciders}
use Rattle.law.proofs.Law.{stays_put}
use Rattle.law.proofs.Ranks.{each_none, each_one}

-- no other node's slot or round alters, and a that has decided stays so
pub record Only (a : ℕ) (b b' : Board) : Type 0 where
  pub slots : (i : ℕ) → (i ≡ a → ⊥) → (at b' i).slot ≡ (at b i).slot
  pub rounds : (i : ℕ) → (i ≡ a → ⊥) → (at b' i).round ≡ (at b i).round
  pub stays : 0 < (at b a).slot → 0 < (at b' a).slot

pub only_then : (a : ℕ) (b c d : Board) → Only a b c → Only a c d → Only a b d
only_then a b c d p q = record {
  slots = λ i e. q.slots i e ∙ p.slots i e;
  rounds = λ i e. q.rounds i e ∙ p.rounds i e;
  stays = λ h. q.stays (p.stays h);
}

joins : (a : ℕ) (x y z : Bool) → (x ≡ false → y ≡ false) → (y ≡ false → z ≡ false) → cond (x && not y) (a ∷ []) [] ++ cond (y && not z) (a ∷ []) [] ≡ cond (x && not z) (a ∷ []) []
joins a true true z f g = refl
joins a true false true f g = absurd (both_ways true (g refl) refl)
joins a true false false f g = refl
joins a false true z f g = absurd (both_ways true (f refl) refl)
joins a false false z f g = refl

module _ (m : Map) (a : ℕ) (in_a : a < nodes m) where
  decide_only : (b b' : Board) → Only a b b' → deciders m b b' ≡ cond (decides b b' a) (a ∷ []) []
  decide_only b b' o = go (decides b b' a) refl
    where
      go : (v : Bool) → decides b b' a ≡ v → deciders m b b' ≡ cond v (a ∷ []) []
      go true e = each_one (decides b b') (λ k. k) (nodes m) a in_a e (λ i d. stays_put b b' i (o.slots i d))
      go false e = each_none (decides b b') (λ k. k) (nodes m) (λ i _. ⊎_elim (λ d. ap (decides b b') d ∙ e) (λ d. stays_put b b' i (o.slots i d)) (cases_eq i a))

  still : (b b' : Board) → Only a b b' → eqb (at b a).slot 0 ≡ false → eqb (at b' a).slot 0 ≡ false
  still b b' o e = ne_eqb (at b' a).slot 0 (λ z. let n = eqb-false (at b a).slot 0 e in let p = o.stays (omega arith) in omega arith)

  -- who decides in two parts decides in the whole
  pub decide_then : (b c d : Board) → Only a b c → Only a c d → deciders m b c ++ deciders m c d ≡ deciders m b d
  decide_then b c d p q =
      ap₂ (λ (xs ys : List ℕ). xs ++ ys) (decide_only b c p) (decide_only c d q)
      ∙ joins a (eqb (at b a).slot 0) (eqb (at c a).slot 0) (eqb (at d a).slot 0) (still b c p) (still c d q)
      ∙ sym (decide_only b d (only_then a b c d p q))

  -- a decides, and no other
  pub decide_one : (b b' : Board) → Only a b b' → (at b a).slot ≡ 0 → 0 < (at b' a).slot → deciders m b b' ≡ a ∷ []
  decide_one b b' o z l =
      decide_only b b' o
      ∙ ap₂ (λ (x y : ℕ). cond (eqb x 0 && not (eqb y 0)) (a ∷ []) []) z refl
      ∙ ap (λ (v : Bool). cond (not v) (a ∷ []) []) (ne_eqb (at b' a).slot 0 (λ e. let u : ⊥ = omega arith in u))

-- nobody decides where nothing changes
pub decide_none : (m : Map) (b : Board) → deciders m b b ≡ []
decide_none m b = each_none (decides b b) (λ k. k) (nodes m) (λ k _. stays_put b b k refl)
