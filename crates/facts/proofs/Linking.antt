-- Links of a path of five nodes, computed.
use Rattle.std.proofs.Common.{◌≡◌, ℕ, zero, suc, ◌<◌, ◌≤◌, Bool, true, false, not, ◌&&◌, ◌||◌, eqb, ltb, List, [], ◌∷◌, Err, ap, inl, inr, arith}
use Rattle.std.proofs.lemmas.Bool.{both_ways}
use Rattle.refusal.specs.Entry.{entry as told, Why}
use Rattle.refusal.specs.declared.Refusal.{Refusal}
use Rattle.refusal.proofs.Why.{Why-cases}
use Rattle.map.specs.View.{Net, net, nodes, linked}
use Rattle.map.specs.declared.Map.{Map}
use Rattle.rules.specs.Pairs.{pair_at, link_clash}
use Rattle.rules.specs.Link.{Made, NoNode, NoLink}
use Rattle.benches.specs.Paths.{path}

abbrev pub pairs : List (ℕ × ℕ)
pairs = (0, 1) ∷ (2, 3) ∷ (3, 4) ∷ []

-- the link rule's tests, by the net of a map
abbrev near_of : Net → ℕ → ℕ → Bool
near_of n x y = eqb x y || n.links x y

abbrev close_of : Net → ℕ × ℕ → ℕ × ℕ → Bool
close_of n p q = (near_of n p.0 q.0 || near_of n p.0 q.1) || (near_of n p.1 q.0 || near_of n p.1 q.1)

abbrev clash_of : Net → ℕ → ℕ → Bool
clash_of n a b = ltb a 3 && (ltb b 3 && (not (eqb a b) && close_of n (pair_at pairs a) (pair_at pairs b)))

module _ (m : Map) (e : net m ≡ path 5) where
  five : nodes m ≡ 5
  five = ap (λ (n : Net). n.size) e

  inside : (i : ℕ) → i < 3 → ((pair_at pairs i).0 < 5) × ((pair_at pairs i).1 < 5)
  inside i l = (grind arith, grind arith)

  joined : (i : ℕ) → i < 3 → linked m (pair_at pairs i).0 (pair_at pairs i).1 ≡ true
  joined zero l = ap (λ (n : Net). n.links 0 1) e
  joined (suc zero) l = ap (λ (n : Net). n.links 2 3) e
  joined (suc (suc zero)) l = ap (λ (n : Net). n.links 3 4) e
  joined (suc (suc (suc i))) l = absurd (let z : ⊥ = omega arith in z)

  no_node : NoNode m pairs → ⊥
  no_node (i, l, _, inl h) = let q = (inside i l).0 in let s = five in omega arith
  no_node (i, l, _, inr h) = let q = (inside i l).1 in let s = five in omega arith

  no_link : NoLink m pairs → ⊥
  no_link (i, l, _, _, _, h) = both_ways (linked m (pair_at pairs i).0 (pair_at pairs i).1) h (joined i l)

  pub not_refused : (x : Refusal) → Made m pairs (Err x) → ⊥
  not_refused x h = elim (Why-cases (told x).number 2 (512 < 3) ((3 ≤ 512) × Why (told x).number 3 (NoNode m pairs) (Why (told x).number 7 (NoLink m pairs) ⊥)) h) [
    | inl q ↦ omega arith
    | inr q ↦ elim (Why-cases (told x).number 3 (NoNode m pairs) (Why (told x).number 7 (NoLink m pairs) ⊥) q.1) [
      | inl w ↦ no_node w
      | inr w ↦ elim (Why-cases (told x).number 7 (NoLink m pairs) ⊥ w) [ inl v ↦ no_link v | inr v ↦ v ]
    ]
  ]

  pub near_is : link_clash m pairs 0 1 ≡ true
  near_is = ap (λ (n : Net). clash_of n 0 1) e

  pub far_is : link_clash m pairs 0 2 ≡ false
  far_is = ap (λ (n : Net). clash_of n 0 2) e
