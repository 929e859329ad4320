-- A radio that loses and repeats nothing while fewer than 256 messages wait, and that hands one out while one waits; in which order does not matter. For inner
-- functions: no public contract rests on it.
use Rattle.std.specs.Prelude.{◌≡◌, ℕ, ◌+◌, ◌<◌, Bool, cond, List, [], ◌∷◌, length, Some, None}
use Rattle.radio.specs.Ways.{Ways}
use Rattle.radio.specs.declared.message.Message.{Message}

-- how many messages of a list pass a test
abbrev pub tally : (Message → Bool) → List Message → ℕ
tally p [] = 0
tally p (x ∷ xs) = cond (p x) 1 0 + tally p xs

pub record Sure {S : Type 0} (w : Ways S) : Type 0 where
  -- nothing comes only where nothing waits
  pub hands : (s : S) → w.taken s ≡ None → w.air s ≡ []
  -- the message that comes is taken out of the air once, and no other is
  pub once : (s : S) (x : Message) → w.taken s ≡ Some x → (p : Message → Bool) → tally p (w.air s) ≡ cond (p x) 1 0 + tally p (w.air (w.after_take s))
  -- a message put in is in the air once more, and no other is, where fewer than 256 wait
  pub keeps : (s : S) (x : Message) → length (w.air s) < 256 → (p : Message → Bool) → tally p (w.air (w.after_put s x)) ≡ cond (p x) 1 0 + tally p (w.air s)
