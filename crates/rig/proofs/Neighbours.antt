-- What a node's neighbours, as a set of marks, tell of the numbers below the count.
use Rattle.std.proofs.Common.{◌≡◌, ℕ, ◌<◌, Bool, true, false, not, ◌&&◌, Decides, sym, refl, ap, ◌∙◌}
use Rattle.std.proofs.lemmas.Bool.{both_ways}
use Rattle.marks.specs.declared.Marks.{Marks}
use Rattle.marks.specs.View.{marked}
use Rattle.marks.specs.Below.{some_below}
use Rattle.map.specs.declared.Map.{Map}
use Rattle.map.specs.View.{nodes, linked}
use Rattle.schedule.proofs.Slots.{some_find, some_at}
use Rattle.rig.specs.Steps.{lacks}

some_off : (p : ℕ → Bool) (n : ℕ) → some_below p n ≡ false → (k : ℕ) → k < n → p k ≡ false
some_off p n e k l = go (p k) refl
  where
    go : (b : Bool) → p k ≡ b → p k ≡ false
    go true t = absurd (both_ways (some_below p n) e (some_at p n k l t))
    go false f = f

some_not : (p : ℕ → Bool) (n : ℕ) (r : Bool) → (r ≡ true → (k : ℕ) → k < n → p k ≡ false) → (((k : ℕ) → k < n → p k ≡ false) → r ≡ true) → some_below p n ≡ not r
some_not p n r f g = go (some_below p n) refl r refl
  where
    go : (b : Bool) → some_below p n ≡ b → (q : Bool) → r ≡ q → b ≡ not q
    go true e true q = let (k, l, t) = some_find p n e in absurd (both_ways (p k) (f q k l) t)
    go true e false q = refl
    go false e true q = refl
    go false e false q = absurd (both_ways r q (g (some_off p n e)))

pub lacked : (x y : Bool) → (x ≡ true → y ≡ true) → (x && not y) ≡ false
lacked true true i = refl
lacked true false i = sym (i refl)
lacked false y i = refl

marked_too : (x y : Bool) → x ≡ true → (x && not y) ≡ false → y ≡ true
marked_too true true t f = refl
marked_too true false t f = sym f
marked_too false y t f = absurd (both_ways false refl t)

not-not : (b : Bool) → not (not b) ≡ b
not-not true = refl
not-not false = refl

module _ (m : Map) (k : ℕ) (s : Marks) (r : Bool) (each : (j : ℕ) → marked s j ≡ linked m k j) where
  linked_below : (j : ℕ) → linked m k j ≡ true → j < nodes m
  linked_below j t = m.within j k (m.both j k ∙ t)

  pub no_neighbour : Decides r ((j : ℕ) → marked s j ≡ false) → some_below (linked m k) (nodes m) ≡ not r
  no_neighbour d = some_not (linked m k) (nodes m) r (λ q j _. sym (each j) ∙ d.0 q j) (λ f. d.1 (λ j. each j ∙ off f j (linked m k j) refl))
    where
      off : ((j : ℕ) → j < nodes m → linked m k j ≡ false) → (j : ℕ) (b : Bool) → linked m k j ≡ b → linked m k j ≡ false
      off f j true t = f j (linked_below j t)
      off f j false e = e

  pub all_marked : (g : Marks) → Decides r ((j : ℕ) → marked s j ≡ true → marked g j ≡ true) → not (some_below (lacks m g k) (nodes m)) ≡ r
  all_marked g d =
      ap not (some_not (lacks m g k) (nodes m) r
      (λ q j _. lacked (linked m k j) (marked g j) (λ t. d.0 q j (each j ∙ t)))
      (λ f. d.1 (λ j t. let u = sym (each j) ∙ t in marked_too (linked m k j) (marked g j) u (f j (linked_below j u)))))
      ∙ not-not r
