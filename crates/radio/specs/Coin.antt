-- The coin radio: a generator decides what is lost, what is handed out and what stays.
use Rattle.std.specs.Prelude.{ℕ, ◌*◌, ◌/◌, ◌%◌, ◌^◌, Bool, cond, List, length, Option, ◌==◌, bit_xor}
use Rattle.std.specs.List.{remove, slice_get}
use Rattle.radio.specs.declared.message.Message.{Message}
use Rattle.radio.specs.Ways.{Ways}
use Rattle.radio.specs.Waiting.{entered}

-- x combined by exclusive or with itself shifted by k, without the bits past 32
abbrev pub xor_left : ℕ → ℕ → ℕ
xor_left x k = bit_xor x ((x * 2 ^ k) % 2 ^ 32)

abbrev pub xor_right : ℕ → ℕ → ℕ
xor_right x k = bit_xor x (x / 2 ^ k)

-- one step of the generator: left 13, right 17, left 5
unfoldable pub stepped : ℕ → ℕ
stepped x = xor_left (xor_right (xor_left x 13) 17) 5

-- where the generator starts: a seed of 0 stands for 1
abbrev pub seeded : ℕ → ℕ
seeded given = cond (given == 0) 1 given

-- the generator's value, and the messages that wait
pub record CoinState : Type 0 where
  pub value : ℕ
  pub waits : List Message

-- the lowest three bits of v are 0: what is put in is lost
abbrev pub loses : ℕ → Bool
loses v = v % 8 == 0

-- v / 65536 is 0 modulo 8: what is handed out stays
abbrev pub stays : ℕ → Bool
stays v = v / 65536 % 8 == 0

abbrev pub coin_put : CoinState → Message → CoinState
coin_put s m = record { value = stepped s.value; waits = cond (loses (stepped s.value)) s.waits (entered s.waits m) }

-- the place of the message that is handed out
abbrev pub place : CoinState → ℕ
place s = stepped s.value % length s.waits

-- a taking from an empty air does not step the generator
abbrev pub coin_take : CoinState → CoinState
coin_take s =
    cond (length s.waits == 0) s
    (record { value = stepped s.value; waits = cond (stays (stepped s.value)) s.waits (remove s.waits (place s)) })

abbrev pub coin_taken : CoinState → Option Message
coin_taken s = slice_get s.waits (place s)

abbrev pub coin_ways : Ways CoinState
coin_ways = record { after_put = coin_put; after_take = coin_take; taken = coin_taken; air = λ s. s.waits }
