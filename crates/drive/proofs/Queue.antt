-- The rack queue is sure.
use Rattle.std.proofs.Common.{◌≡◌, ℕ, ◌+◌, ◌<◌, Bool, cond, ltb, List, [], ◌∷◌, ◌++◌, length, Some, None, refl, ap, ◌∙◌, arith}
use Rattle.std.specs.List.{remove, slice_get}
use Rattle.std.proofs.lemmas.Bool.{lt-ltb, cond-true}
use Rattle.radio.specs.Queue.{queue_ways}
use Rattle.radio.specs.Waiting.{entered}
use Rattle.radio.specs.declared.message.Message.{Message}
use Rattle.drive.specs.Sure.{tally, Sure}
use Rattle.drive.proofs.Hits.{tally_append}

hands : (ms : List Message) → slice_get ms 0 ≡ None → ms ≡ []
hands [] e = refl
hands (x ∷ ms) e = absurd (let z : ◌≡◌ {A = ℕ} 0 1 = cc in omega arith)

once : (ms : List Message) (x : Message) → slice_get ms 0 ≡ Some x → (p : Message → Bool) → tally p ms ≡ cond (p x) 1 0 + tally p (remove ms 0)
once [] x e p = absurd (let z : ◌≡◌ {A = ℕ} 0 1 = cc in omega arith)
once (y ∷ ms) x e p = let d : y ≡ x = cc in ap (λ (z : Message). cond (p z) 1 0 + tally p ms) d

keeps : (ms : List Message) (x : Message) → length ms < 256 → (p : Message → Bool) → tally p (entered ms x) ≡ cond (p x) 1 0 + tally p ms
keeps ms x l p =
    ap (tally p) (cond-true (ltb (length ms) 256) (ms ++ (x ∷ [])) ms (lt-ltb (length ms) 256 l))
    ∙ (let e = tally_append p ms (x ∷ []) in omega arith)

pub queue_sure : Sure queue_ways
queue_sure = record { hands = hands; once = once; keeps = keeps }
