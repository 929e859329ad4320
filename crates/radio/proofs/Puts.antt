-- Putting in a list of messages, one by one.
use Rattle.std.proofs.Common.{◌≡◌, ℕ, ◌+◌, ◌<◌, List, [], ◌∷◌, ◌++◌, length, get_or, take, sym, refl, ap, ◌∙◌, inl, inr, ⊎_elim}
use mathlib.Core.List.Memᴰ
use Rattle.std.proofs.lemmas.List.{take_more}
use Rattle.radio.specs.declared.message.Message.{Message}
use Rattle.radio.specs.Ways.{Ways, AirRule, puts, OldOrPut}

pub puts_push : {S : Type 0} (w : Ways S) (s : S) (ms : List Message) (m : Message) → puts w s (ms ++ (m ∷ [])) ≡ w.after_put (puts w s ms) m
puts_push w s [] m = refl
puts_push w s (x ∷ ms) m = puts_push w (w.after_put s x) ms m

pub puts_more : {S : Type 0} (w : Ways S) (s t u : S) (ms : List Message) (i : ℕ) (d : Message) → i < length ms → t ≡ puts w s (take i ms) → u ≡ w.after_put t (get_or ms i d) → u ≡ puts w s (take (i + 1) ms)
puts_more w s t u ms i d l p q =
    q ∙ ap (λ x. w.after_put x (get_or ms i d)) p ∙ sym (puts_push w s (take i ms) (get_or ms i d)) ∙ ap (puts w s) (sym (take_more ms i d l))

pub puts_air : {S : Type 0} (w : Ways S) → AirRule w → (s : S) (ms : List Message) → OldOrPut w s ms
puts_air w rule s [] x h = inl h
puts_air w rule s (m ∷ ms) x h =
    ⊎_elim (λ i. ⊎_elim inl (λ e. inr (Memᴰ.head e)) (rule.put_air s m x i)) (λ j. inr (Memᴰ.tail j)) (puts_air w rule (w.after_put s m) ms x h)
