-- What a job says: its map, its seed and its events; and the first record that breaks the rules.
use Rattle.std.specs.Prelude.{◌≡◌, ℕ, zero, suc, ◌-◌, Bool, false, cond, not, ◌&&◌, ◌||◌, List, [], ◌++◌, length, is_some, Some, None, Ok, Err, Option, Result, ◌==◌, nat_le, nat_lt}
use Rattle.std.specs.Option.{option_to_list}
use Rattle.marks.specs.Below.{some_below}
use Rattle.refusal.specs.declared.Refusal.{Refusal}
use Rattle.map.specs.View.{Net, net}
use Rattle.records.specs.declared.fields.Record.{Record as Fields}
use Rattle.records.specs.Fields.{length_rule, records, record_at, number_of, taken}
use Rattle.records.specs.Build.{opens, joins, count_in, names}
use Rattle.records.specs.Fits.{AllFit, RefusedFor}
use Rattle.script.specs.declared.Event.{Event}
use Rattle.script.specs.declared.Event.TheVariants.{Draw, Deliver, Nudge}
use Rattle.script.specs.declared.Script.{Script}

-- one record

-- the event of a record, if it is one: D (68) draws node byte 1 with the number; M (77) delivers up to the number, 1 to 4096, of times; R (82) nudges
-- node byte 1; the bytes that a letter does not use are 0
abbrev pub event_of : Option Fields → Option Event
event_of None = None
event_of (Some r) =
    cond (r.letter == 68 && r.second == 0) (Some (Draw r.first r.number))
    (cond (r.letter == 77 && ((r.first == 0 && r.second == 0) && (nat_le 1 r.number && nat_le r.number 4096))) (Some (Deliver r.number))
    (cond (r.letter == 82 && (r.second == 0 && r.number == 0)) (Some (Nudge r.first)) None))

-- C (67): its number is a seed
abbrev pub seeds : Option Fields → Bool
seeds None = false
seeds (Some r) = r.letter == 67 && (r.first == 0 && r.second == 0)

-- a job

-- the event of record i
abbrev pub event_at : List ℕ → ℕ → Option Event
event_at job i = event_of (taken (record_at job i))

-- record i links two nodes
abbrev pub links_at : List ℕ → ℕ → Bool
links_at job i = joins (count_in job) (taken (record_at job i))

-- record i is a seed, which only the second record may be
abbrev pub seeds_at : List ℕ → ℕ → Bool
seeds_at job i = i == 1 && seeds (taken (record_at job i))

-- an event stands after the first record and before record i + 1
abbrev pub event_before : List ℕ → ℕ → Bool
event_before job i = some_below (λ j. is_some (event_at job (suc j))) i

-- record i is what its place allows: N at 0; after it a seed, a link with no event before it, or an event
abbrev pub good : List ℕ → ℕ → Bool
good job zero = opens (taken (record_at job 0))
good job (suc i) = seeds_at job (suc i) || ((links_at job (suc i) && not (event_before job i)) || is_some (event_at job (suc i)))

-- the map: as many nodes as N says, linked where a link names both
abbrev pub described : List ℕ → Net
described job = record { size = count_in job; links = λ x y. some_below (λ i. links_at job (suc i) && names job (suc i) x y) (records job - 1) }

-- the seed, if there is one
abbrev pub seed_of : List ℕ → Option ℕ
seed_of job = cond (nat_lt 1 (records job) && seeds_at job 1) (Some (number_of (record_at job 1))) None

-- the events of the first k records, in their order
unfoldable pub events_to : List ℕ → ℕ → List Event
events_to job zero = []
events_to job (suc i) = events_to job i ++ option_to_list (event_at job i)

abbrev pub events : List ℕ → List Event
events job = events_to job (records job)

-- what reading a job answers: its map and its seed where every record is good; else 2 or 13 by its length, or 14 at the first bad record
abbrev pub Reads : List ℕ → Result Script Refusal → Type 0
Reads job (Ok s) = (length_rule (length job) ≡ Ok tt) × AllFit (good job) (records job) × (net s.map ≡ described job) × (s.seed ≡ seed_of job)
Reads job (Err e) = RefusedFor (good job) job e
