-- Laws of the link rule that its impl has to show: the test says what the relation says, it is mutual, and no place clashes with itself.
-- There is nothing to believe here: each line is proved.
use Rattle.std.specs.Prelude.{◌≡◌, ℕ, true, false, ◌⊎◌, List, length, Decides, ◌==◌}
use Rattle.std.proofs.Math.Path.{refl}
use Rattle.std.proofs.Common.{sym, ap, ◌∙◌}
use Rattle.std.proofs.Math.Logic.{inl, inr}
use Rattle.std.proofs.lemmas.Bool.{cases_Bool}
use Rattle.std.proofs.lemmas.Bool.Decides.{Decides-eqb, Decides-ltb, Decides-not, Decides-and, Decides-or, Decides-like, same_from_decides}
use Rattle.map.specs.View.{linked, Linked}
use Rattle.map.specs.declared.Map.{Map}
use Rattle.rules.specs.Pairs.{pair_at, Close, LinkClash, near, close, link_clash}

module _ (m : Map) where
  Near : ℕ → ℕ → Type 0
  Near x y = (x ≡ y) ⊎ Linked m x y

  near_decides : (x y : ℕ) → Decides (near m x y) (Near x y)
  unfolding Near
  near_decides x y = Decides-or (x == y) (linked m x y) (Decides-eqb x y) ((λ e. e), (λ e. e))

  close_decides : (p q : ℕ × ℕ) → Decides (close m p q) (Close m p q)
  unfolding Near
  close_decides p q =
      Decides-like (close m p q) to back
      (Decides-or _ _ (Decides-or _ _ (near_decides p.0 q.0) (near_decides p.0 q.1)) (Decides-or _ _ (near_decides p.1 q.0) (near_decides p.1 q.1)))
    where
      to : (Near p.0 q.0 ⊎ Near p.0 q.1) ⊎ (Near p.1 q.0 ⊎ Near p.1 q.1) → Close m p q
      to (inl (inl h)) = (p.0, q.0, inl refl, inl refl, h)
      to (inl (inr h)) = (p.0, q.1, inl refl, inr refl, h)
      to (inr (inl h)) = (p.1, q.0, inr refl, inl refl, h)
      to (inr (inr h)) = (p.1, q.1, inr refl, inr refl, h)

      at : {x y x' y' : ℕ} → x ≡ x' → y ≡ y' → (x ≡ y) ⊎ Linked m x y → (x' ≡ y') ⊎ Linked m x' y'
      at e f (inl h) = inl (sym e ∙ h ∙ f)
      at {x} {y} {x'} {y'} e f (inr h) = inr (ap (λ (v : ℕ). linked m v y') (sym e) ∙ ap (linked m x) (sym f) ∙ h)

      back : Close m p q → (Near p.0 q.0 ⊎ Near p.0 q.1) ⊎ (Near p.1 q.0 ⊎ Near p.1 q.1)
      back (x, y, inl e, inl f, h) = inl (inl (at e f h))
      back (x, y, inl e, inr f, h) = inl (inr (at e f h))
      back (x, y, inr e, inl f, h) = inr (inl (at e f h))
      back (x, y, inr e, inr f, h) = inr (inr (at e f h))

  module _ (pairs : List (ℕ × ℕ)) where
    pub link_decides : (a b : ℕ) → Decides (link_clash m pairs a b) (LinkClash m pairs a b)
    link_decides a b =
        Decides-and _ _ (Decides-ltb a (length pairs)) (Decides-and _ _ (Decides-ltb b (length pairs))
        (Decides-and _ _ (Decides-not (a == b) (Decides-eqb a b)) (close_decides (pair_at pairs a) (pair_at pairs b))))

    turned : (a b : ℕ) → LinkClash m pairs a b → LinkClash m pairs b a
    turned a b (p, (q, (d, (x, y, e, f, h)))) = (q, (p, ((λ z. d (sym z)), (y, x, f, e, other h))))
      where
        other : (x ≡ y) ⊎ Linked m x y → (y ≡ x) ⊎ Linked m y x
        other (inl e) = inl (sym e)
        other (inr l) = inr (m.both y x ∙ l)

    pub link_mutual : (a b : ℕ) → link_clash m pairs a b ≡ link_clash m pairs b a
    link_mutual a b =
        same_from_decides (link_clash m pairs a b) (link_clash m pairs b a) (link_decides a b)
        (Decides-like (link_clash m pairs b a) (turned b a) (turned a b) (link_decides b a))

    pub link_apart : (a : ℕ) → link_clash m pairs a a ≡ false
    link_apart a = go (cases_Bool (link_clash m pairs a a))
      where
        go : (link_clash m pairs a a ≡ true) ⊎ (link_clash m pairs a a ≡ false) → link_clash m pairs a a ≡ false
        go (inl t) = absurd (((link_decides a a).0 t).1.1.0 refl)
        go (inr f) = f
