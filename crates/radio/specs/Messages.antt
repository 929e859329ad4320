-- Messages that say no more than their kind, and answers.
use Rattle.std.specs.Prelude.{ℕ}
use Rattle.marks.specs.Sets.{none}
use Rattle.radio.specs.declared.kind.Kind.{Kind}
use Rattle.radio.specs.declared.message.Message.{Message}
use Rattle.radio.specs.Kinds.{kind_number}

-- a message of this kind and round, from a to b, with neither slot nor slots
abbrev pub bare : Kind → ℕ → ℕ → ℕ → Message
bare kind round a b = record { kind = kind_number kind; sender = a; receiver = b; round = round; slot = 0; slots = none }

-- the message of this kind that goes back to the sender of x, in the same round
abbrev pub reply : Message → Kind → Message
reply x kind = bare kind x.round x.receiver x.sender
