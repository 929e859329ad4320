-- Messages that wait, the oldest first, with space for 256.
use Rattle.std.specs.Prelude.{ℕ, List}
use Rattle.bounded.specs.declared.Bounded.{Bounded}
use Rattle.bounded.specs.Held.{held, pushed}
use Rattle.radio.specs.declared.message.Message.{Message}

-- what waits in an air
abbrev pub waiting : {n : ℕ} → Bounded Message n → List Message
waiting a = held a

-- one message more, which is lost where 256 wait
abbrev pub entered : List Message → Message → List Message
entered ms m = pushed 256 ms m
