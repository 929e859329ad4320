-- Writing to what has space for 1024 bytes: one piece after another.
use Rattle.std.proofs.Common.{◌≡◌, ℕ, ◌<◌, ◌≤◌, ◌⊎◌, List, [], ◌++◌, length, take, sym, ap, ◌∙◌, inl, inr, append_assoc, append-nil, arith, length-take, take_all}
use lib.Seq.{take-append-le}
use Rattle.std.proofs.lemmas.Bool.{cases_lt}
use Rattle.text.specs.Written.{clip, written}
use Rattle.text.specs.declared.Text.{Text}
use Rattle.bounded.proofs.Places.{held_short}

clip_more : (a b : List ℕ) → clip (clip a ++ b) ≡ clip (a ++ b)
clip_more a b = go (cases_lt 1024 (length a))
  where
    go : (1024 < length a) ⊎ (length a ≤ 1024) → clip (clip a ++ b) ≡ clip (a ++ b)
    go (inr h) = ap (λ (x : List ℕ). clip (x ++ b)) (take_all 1024 a h)
    go (inl h) =
        let k : 1024 ≤ length (take 1024 a) = simp length-take (omega arith) in
        let l : 1024 ≤ length a = omega arith in
        take-append-le 1024 (take 1024 a) b k ∙ take_all 1024 (take 1024 a) (simp length-take (omega arith)) ∙ sym (take-append-le 1024 a b l)

-- one piece, and then another
pub and_then : (s t u a b : List ℕ) → t ≡ clip (s ++ a) → u ≡ clip (t ++ b) → u ≡ clip (s ++ (a ++ b))
and_then s t u a b p q = q ∙ ap (λ (x : List ℕ). clip (x ++ b)) p ∙ clip_more (s ++ a) b ∙ ap clip (append_assoc s a b)

-- nothing yet
pub none_yet : (s : List ℕ) → length s ≤ 1024 → s ≡ clip (s ++ [])
none_yet s h = rw append-nil (sym (take_all 1024 s h))

-- what fits is not clipped
pub whole : (s t a : List ℕ) → s ≡ [] → length a ≤ 1024 → t ≡ clip (s ++ a) → t ≡ a
whole s t a e l p = p ∙ ap (λ (x : List ℕ). clip (x ++ a)) e ∙ take_all 1024 a l

-- a text is no longer than its space
pub written_short : (t : Text) → length (written t) ≤ 1024
written_short t = held_short t.bytes
