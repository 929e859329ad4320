-- What a radio does, state by state, and the rule that every radio keeps.
use Rattle.std.specs.Prelude.{◌≡◌, ◌⊎◌, List, [], ◌∷◌, Some, Option}
use mathlib.Core.List.{Memᴰ}
use Rattle.radio.specs.declared.message.Message.{Message}

-- the state after putting in and after taking, what taking answers, and the messages that wait
pub record Ways (S : Type 0) : Type 0 where
  pub after_put : S → Message → S
  pub after_take : S → S
  pub taken : S → Option Message
  pub air : S → List Message

-- the message is one of the list
abbrev pub In : Message → List Message → Type 0
In x xs = Memᴰ x xs

-- the air rule, as the trait's laws have it: what waits after putting in was there before or is the message put in; what is taken was there, and so was what is left
pub record AirRule {S : Type 0} (w : Ways S) : Type 0 where
  pub put_air : (s : S) (m x : Message) → In x (w.air (w.after_put s m)) → In x (w.air s) ⊎ (x ≡ m)
  pub take_air : (s : S) (x : Message) → In x (w.air (w.after_take s)) → In x (w.air s)
  pub taken_air : (s : S) (x : Message) → w.taken s ≡ Some x → In x (w.air s)

-- the state after a list of messages is put in, in its order
abbrev pub puts : {S : Type 0} → Ways S → S → List Message → S
puts w s [] = s
puts w s (m ∷ ms) = puts w (w.after_put s m) ms

-- after that each message in the air is an old one or one of the list
abbrev pub OldOrPut : {S : Type 0} → Ways S → S → List Message → Type 0
OldOrPut w s ms = (x : Message) → In x (w.air (puts w s ms)) → In x (w.air s) ⊎ In x ms
