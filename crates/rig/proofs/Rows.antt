-- One more of a row of messages.
use Rattle.std.proofs.Common.{◌≡◌, ℕ, zero, suc, ◌+◌, ◌≤◌, Bool, true, false, cond, not, ◌&&◌, List, [], ◌∷◌, ◌++◌, length, sym, refl, ap, ap₂, ◌∙◌, append-nil, add-one, arith}
use Rattle.std.proofs.lemmas.List.{length_push}
use Rattle.radio.specs.declared.message.Message.{Message}
use Rattle.radio.specs.Ways.{Ways, puts}
use Rattle.radio.proofs.Puts.{puts_push}
use Rattle.rig.specs.Board.{each}

each_next : {A : Type 0} (p : ℕ → Bool) (f : ℕ → A) (n : ℕ) (v : Bool) → p n ≡ v → each p f (n + 1) ≡ each p f n ++ cond v (f n ∷ []) []
unfolding each
each_next p f n v e = ap (each p f) (add-one n) ∙ ap (λ (x : Bool). each p f n ++ cond x (f n ∷ []) []) e

pub and_not : (x y : Bool) → y ≡ false → (x && not y) ≡ x
and_not true true e = sym e
and_not true false e = refl
and_not false y e = refl

-- by a test that tells the same
pub each_like : (p q : ℕ → Bool) (f : ℕ → Message) (n : ℕ) → ((j : ℕ) → p j ≡ q j) → each p f n ≡ each q f n
unfolding each
each_like p q f zero h = refl
each_like p q f (suc n) h = ap₂ (λ (xs : List Message) (b : Bool). xs ++ cond b (f n ∷ []) []) (each_like p q f n h) (h n)

module _ {S : Type 0} (w : Ways S) (s : S) (p : ℕ → Bool) (f : ℕ → Message) where
  pub each_none : s ≡ puts w s (each p f 0)
  unfolding each
  each_none = refl

  pub each_sent : (t u : S) (n : ℕ) → p n ≡ true → t ≡ puts w s (each p f n) → u ≡ w.after_put t (f n) → u ≡ puts w s (each p f (n + 1))
  each_sent t u n e h g = g ∙ ap (λ x. w.after_put x (f n)) h ∙ sym (ap (puts w s) (each_next p f n true e) ∙ puts_push w s (each p f n) (f n))

  pub each_skipped : (t : S) (n : ℕ) → p n ≡ false → t ≡ puts w s (each p f n) → t ≡ puts w s (each p f (n + 1))
  each_skipped t n e h = h ∙ sym (ap (puts w s) (each_next p f n false e ∙ append-nil (each p f n)))

  pub each_all : (t : S) (i n : ℕ) → t ≡ puts w s (each p f i) → i ≡ n → t ≡ puts w s (each p f n)
  each_all t i n h e = h ∙ ap (λ (k : ℕ). puts w s (each p f k)) e

pub each-length : (p : ℕ → Bool) (f : ℕ → Message) (n : ℕ) (v : Bool) → p n ≡ v → length (each p f (n + 1)) ≡ length (each p f n) + cond v 1 0
each-length p f n true e = ap length (each_next p f n true e) ∙ length_push (each p f n) (f n)
each-length p f n false e = ap length (each_next p f n false e ∙ append-nil (each p f n)) ∙ (let z : length (each p f n) ≡ length (each p f n) + 0 = omega arith in z)

pub each_length_none : (p : ℕ → Bool) (f : ℕ → Message) → length (each p f 0) ≡ 0
unfolding each
each_length_none p f = refl

pub each_most : (p : ℕ → Bool) (f : ℕ → Message) (n : ℕ) → length (each p f n) ≤ n
each_most p f zero = omega (arith, each_length_none p f)
each_most p f (suc n) = go (p n) refl (each_most p f n)
  where
    up : length (each p f (suc n)) ≡ length (each p f (n + 1))
    up = ap (λ (k : ℕ). length (each p f k)) (sym (add-one n))

    go : (v : Bool) → p n ≡ v → length (each p f n) ≤ n → length (each p f (suc n)) ≤ suc n
    go true e h = omega (arith, up, each-length p f n true e)
    go false e h = omega (arith, up, each-length p f n false e)
