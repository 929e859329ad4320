-- A job's bytes as records of eight bytes, and the parts of a record.
use Rattle.std.specs.Prelude.{ℕ, ◌+◌, ◌*◌, ◌/◌, ◌%◌, ◌^◌, cond, ◌&&◌, List, length, take, drop, Some, None, Ok, Err, Option, Result, ◌==◌, nat_le, nat_lt, slice_index}
use Rattle.refusal.specs.declared.Refusal.{Refusal}
use Rattle.refusal.specs.declared.Refusal.TheVariants.{Count, Torn}
use Rattle.records.specs.declared.fields.Record.{Record}

-- a job's length: 2, `Count`, past 32768 bytes; then 13, `Torn`, if it is no multiple of 8
abbrev pub length_rule : ℕ → Result (Unit {0}) Refusal
length_rule n = cond (nat_le n 32768) (cond (n % 8 == 0) (Ok tt) (Err Torn)) (Err Count)

-- how many whole records there are
abbrev pub records : List ℕ → ℕ
records job = length job / 8

-- record i, from 0
abbrev pub record_at : List ℕ → ℕ → List ℕ
record_at job i = take 8 (drop (8 * i) job)

-- what a reader at a place hands out
abbrev pub handed : List ℕ → ℕ → Option (List ℕ)
handed job place = cond (nat_lt place (records job)) (Some (record_at job place)) None

-- bytes 4 to 7 are a number, high byte first
abbrev pub number_of : List ℕ → ℕ
number_of xs = slice_index xs 4 * 2 ^ 24 + slice_index xs 5 * 2 ^ 16 + slice_index xs 6 * 2 ^ 8 + slice_index xs 7

-- byte 0 is a letter, bytes 1 and 2 are nodes; byte 3, which no letter uses, is 0
abbrev pub taken : List ℕ → Option Record
taken xs =
    cond (length xs == 8 && slice_index xs 3 == 0)
    (Some (record { letter = slice_index xs 0; first = slice_index xs 1; second = slice_index xs 2; number = number_of xs }))
    None
