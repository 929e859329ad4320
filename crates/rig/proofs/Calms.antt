-- A node in request has no slot: so it is in a new rig, and stays where one node is altered.
use Rattle.std.proofs.Common.{◌≡◌, ℕ, zero, suc, ◌<◌, ◌≤◌, true, ◌⊎◌, length, replicate, sym, refl, ap, ◌∙◌, inl, inr, get_or-set_other, get_or-set_same}
use Rattle.std.proofs.lemmas.List.{set_past}
use Rattle.std.proofs.lemmas.Bool.{cases_eq, cases_lt}
use Rattle.rig.specs.declared.node.Node.{Node}
use Rattle.rig.specs.Calm.{blank, at, is_request, Calm}
use Rattle.rig.specs.Board.{Board, new_board, put}

pub at-blank : (n k : ℕ) → at (replicate n blank) k ≡ blank
at-blank zero k = refl
at-blank (suc n) zero = refl
at-blank (suc n) (suc k) = at-blank n k

pub calm_new : Calm new_board
calm_new k h = ap (λ (v : Node). v.slot) (at-blank 64 k)

pub at-put : (b : Board) (k : ℕ) (v : Node) → k < length b → at (put b k v) k ≡ v
at-put b k v l = get_or-set_same b k v blank l

pub at_other : (b : Board) (k j : ℕ) (v : Node) → (j ≡ k → ⊥) → at (put b k v) j ≡ at b j
at_other b k j v d = get_or-set_other b k j v blank d

pub calm_put : (b : Board) (k : ℕ) (v : Node) → Calm b → (is_request v.phase ≡ true → v.slot ≡ 0) → Calm (put b k v)
calm_put b k v calm h j = go (cases_eq j k) (cases_lt k (length b))
  where
    moved : (w : Node) → at (put b k v) j ≡ w → (is_request w.phase ≡ true → w.slot ≡ 0) → is_request (at (put b k v) j).phase ≡ true → (at (put b k v) j).slot ≡ 0
    moved w e f t = ap (λ (x : Node). x.slot) e ∙ f (ap (λ (x : Node). is_request x.phase) (sym e) ∙ t)

    go : (j ≡ k) ⊎ (j ≡ k → ⊥) → (k < length b) ⊎ (length b ≤ k) → is_request (at (put b k v) j).phase ≡ true → (at (put b k v) j).slot ≡ 0
    go (inl e) (inl l) = moved v (ap (at (put b k v)) e ∙ at-put b k v l) h
    go (inl e) (inr l) = moved (at b j) (ap (λ (x : Board). at x j) (set_past b k v l)) (calm j)
    go (inr d) _ = moved (at b j) (at_other b k j v d) (calm j)
