-- Contention: the test says what the relation says; it is mutual, and no node contends with itself.
use Rattle.std.proofs.Common.{◌≡◌, ℕ, ◌<◌, ◌≤◌, Bool, true, false, not, ◌&&◌, ◌||◌, eqb, Decides, sym, refl, ap, ◌∙◌, inl, inr, arith}
use Rattle.std.proofs.lemmas.Bool.{eq-eqb, false_from_ne_true}
use Rattle.std.proofs.lemmas.Bool.Decides.{Decides-eqb, Decides-not, Decides-and, Decides-or, Decides-like, same_from_decides}
use Rattle.marks.specs.Below.{some_below}
use Rattle.marks.proofs.Below.{some_decides}
use Rattle.map.specs.View.{nodes, linked, Linked, contend, Contend}
use Rattle.map.specs.declared.Map.{Map}

itself : (x : Bool) → Decides x (x ≡ true)
itself x = ((λ e. e), (λ e. e))

module _ (m : Map) where
  between : (a b : ℕ) → Decides (some_below (λ k. linked m a k && linked m k b) (nodes m)) ((k : ℕ) × Linked m a k × Linked m k b)
  between a b =
      Decides-like _ (λ (k, l, (p, q)). (k, p, q)) (λ (k, p, q). (k, m.within k b q, (p, q)))
      (some_decides (λ k. linked m a k && linked m k b) (λ k. Linked m a k × Linked m k b)
      (λ k. Decides-and (linked m a k) (linked m k b) (itself (linked m a k)) (itself (linked m k b))) (nodes m))

  pub contend_decides : (a b : ℕ) → Decides (contend m a b) (Contend m a b)
  contend_decides a b =
      Decides-and (not (eqb a b)) (linked m a b || some_below (λ k. linked m a k && linked m k b) (nodes m))
      (Decides-not (eqb a b) (Decides-eqb a b))
      (Decides-or (linked m a b) (some_below (λ k. linked m a k && linked m k b) (nodes m)) (itself (linked m a b)) (between a b))

  pub contend_swap : (a b : ℕ) → Contend m a b → Contend m b a
  contend_swap a b (n, inl e) = ((λ z. n (sym z)), inl (m.both b a ∙ e))
  contend_swap a b (n, inr (k, p, q)) = ((λ z. n (sym z)), inr (k, m.both b k ∙ q, m.both k a ∙ p))

  pub contend_itself : (a : ℕ) → Contend m a a → ⊥
  contend_itself a (n, k) = n refl

  -- only nodes of the map contend
  pub contend_inside : (a b : ℕ) → Contend m a b → a < nodes m
  contend_inside a b (n, inl e) = m.within a b e
  contend_inside a b (n, inr (k, p, q)) = m.within a k p

  -- the same of the test

  pub contend_mutual : (a b : ℕ) → contend m a b ≡ contend m b a
  contend_mutual a b =
      same_from_decides (contend m a b) (contend m b a) (contend_decides a b)
      (Decides-like (contend m b a) (contend_swap b a) (contend_swap a b) (contend_decides b a))

  pub contend_apart : (a : ℕ) → contend m a a ≡ false
  contend_apart a = ap (λ (x : Bool). not x && (linked m a a || some_below (λ k. linked m a k && linked m k a) (nodes m))) (eq-eqb a a refl)

  pub contend_past : (a b : ℕ) → nodes m ≤ b → contend m a b ≡ false
  contend_past a b l = false_from_ne_true (contend m a b) (λ t. let k = contend_inside b a (contend_swap a b ((contend_decides a b).0 t)) in omega arith)
