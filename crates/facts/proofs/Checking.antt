-- The checker on a path of three nodes, computed.
use Rattle.std.proofs.Common.{◌≡◌, ℕ, ◌<◌, ◌≤◌, List, [], ◌∷◌, length, get_or, Ok, Err, Result, sym, refl, ap, subst, ap₂, inr, arith}
use Rattle.marks.specs.Below.{some_below, max_below}
use Rattle.refusal.specs.declared.Refusal.{Refusal}
use Rattle.refusal.proofs.Why.{Why-cases}
use Rattle.map.specs.View.{Net, net, nodes, contend}
use Rattle.map.specs.declared.Map.{Map}
use Rattle.map.proofs.Contends.{contend_mutual, contend_apart}
use Rattle.schedule.specs.Sharing.{Shares, FirstPair, Largest, Checked}
use Rattle.schedule.specs.declared.checking.Verdict.{Verdict}
use Rattle.schedule.specs.declared.checking.Verdict.TheVariants.{Accepted, Clash}
use Rattle.schedule.proofs.Accept.{largest_is, largest_same, clear_alone}
use Rattle.benches.specs.Paths.{path}
use Rattle.facts.proofs.Nets.{contend_of}

abbrev pub shared : List ℕ
shared = 1 ∷ 2 ∷ 1 ∷ []

abbrev pub apart : List ℕ
apart = 1 ∷ 2 ∷ 0 ∷ []

-- the one pair of places with the same slot
only : (a b : ℕ) → a < b → b < 3 → get_or shared b 0 ≡ get_or shared a 0 → (a ≡ 0) × (b ≡ 2)
only a b l h e = (grind arith, grind arith)

no_pair : (a b : ℕ) → a < b → b < 3 → get_or apart b 0 ≡ get_or apart a 0 → ⊥
no_pair a b l h e = grind arith

ends_share : Shares (contend_of (path 3)) shared 0 2
unfolding some_below
ends_share = record { placed = omega arith; same = refl; clashing = refl }

largest_apart : (v : ℕ) → Largest 3 apart v → v ≡ 2
unfolding max_below
largest_apart v l = largest_is 3 apart v l

-- a table of three is not too short
long : (slots : List ℕ) → length slots ≡ 3 → (e : Refusal) → Checked (contend_of (path 3)) 3 slots (Err e) → ⊥
long slots l e h = grind (arith, Why-cases)

pub shared_is : (m : Map) (r : Result Verdict Refusal) → net m ≡ path 3 → Checked (contend m) (nodes m) shared r → r ≡ Ok (Clash (0, 2))
shared_is m r e p = go r (subst (λ (n : Net). Checked (contend_of n) n.size shared r) e p)
  where
    go : (x : Result Verdict Refusal) → Checked (contend_of (path 3)) 3 shared x → x ≡ Ok (Clash (0, 2))
    go (Ok (Accepted v)) h = absurd (h.1.0 0 2 (omega arith) (omega arith) ends_share)
    go (Ok (Clash (a, b))) h =
        let (x, y) = only a b h.1.after h.1.inside h.1.shares.same in
        ap₂ (λ (i j : ℕ). Ok (Clash (i, j))) x y
    go (Err x) h = absurd (long shared refl x h)

pub apart_is : (m : Map) (r : Result Verdict Refusal) → net m ≡ path 3 → Checked (contend m) (nodes m) apart r → r ≡ Ok (Accepted 2)
apart_is m r e p = go r (subst (λ (n : Net). Checked (contend_of n) n.size apart r) e p)
  where
    go : (x : Result Verdict Refusal) → Checked (contend_of (path 3)) 3 apart x → x ≡ Ok (Accepted 2)
    go (Ok (Accepted v)) h = ap (λ (i : ℕ). Ok (Accepted i)) (largest_apart v h.1.1)
    go (Ok (Clash (a, b))) h = absurd (no_pair a b h.1.after h.1.inside h.1.shares.same)
    go (Err x) h = absurd (long apart refl x h)

-- both are answers that the checker may give
pub shared_stands : (m : Map) → net m ≡ path 3 → Checked (contend m) (nodes m) shared (Ok (Clash (0, 2)))
shared_stands m e = subst (λ (n : Net). Checked (contend_of n) n.size shared (Ok (Clash (0, 2)))) (sym e) (omega arith, first)
  where
    first : FirstPair (contend_of (path 3)) 3 shared 0 2
    first = record {
      after = omega arith;
      inside = omega arith;
      shares = ends_share;
      first = λ x l. absurd (let z : ⊥ = omega arith in z);
      second = λ y l h s. let (_, f) = only 0 y l (omega arith) s.same in omega arith;
    }

pub apart_stands : (m : Map) → net m ≡ path 3 → Checked (contend m) (nodes m) apart (Ok (Accepted 2))
apart_stands m e =
    let size : nodes m ≡ 3 = ap (λ (n : Net). n.size) e in (
      (let s = size in omega arith),
      (
        clear_alone (contend m) (nodes m) (contend_mutual m) (contend_apart m) apart 3 (sym size) (λ x l y h k s. no_pair x y h k s.same),
        largest_same 3 (nodes m) apart 2 (sym size) (record { above = above; there = inr (1, omega arith, refl) }),
      ),
    )
  where
    above : (k : ℕ) → k < 3 → get_or apart k 0 ≤ 2
    above k l = grind arith
