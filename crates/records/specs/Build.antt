-- The map that a job of N and L records describes, and the first record that breaks the rules.
use Rattle.std.specs.Prelude.{◌≡◌, ℕ, zero, suc, ◌+◌, ◌-◌, ◌*◌, Bool, false, not, ◌&&◌, List, length, Some, None, Ok, Err, Option, Result, ◌==◌, nat_le, nat_lt, slice_index}
use Rattle.marks.specs.Below.{some_below}
use Rattle.refusal.specs.declared.Refusal.{Refusal}
use Rattle.map.specs.View.{Net, net}
use Rattle.map.specs.Calls.{ends}
use Rattle.map.specs.declared.Map.{Map}
use Rattle.records.specs.declared.fields.Record.{Record as Fields}
use Rattle.records.specs.Fields.{length_rule, records, record_at, taken}
use Rattle.records.specs.Fits.{FirstUnfit, AllFit, RefusedFor}

-- N (78) opens a map of 1 to 64 nodes; its other bytes are 0
abbrev pub opens : Option Fields → Bool
opens None = false
opens (Some r) = r.letter == 78 && ((r.second == 0 && r.number == 0) && (nat_le 1 r.first && nat_le r.first 64))

-- L (76) links two different nodes below the count; its number is 0
abbrev pub joins : ℕ → Option Fields → Bool
joins count None = false
joins count (Some r) = r.letter == 76 && (r.number == 0 && ((nat_lt r.first count && nat_lt r.second count) && not (r.first == r.second)))

-- byte k of record i
abbrev pub byte : List ℕ → ℕ → ℕ → ℕ
byte job i k = slice_index job (8 * i + k)

-- the count of nodes that the first record gives
abbrev pub count_in : List ℕ → ℕ
count_in job = byte job 0 1

-- record i is what its place asks for: N at 0, and L after it; a record that is not there is not
abbrev pub good : List ℕ → ℕ → Bool
good job zero = opens (taken (record_at job 0))
good job (suc i) = joins (count_in job) (taken (record_at job (suc i)))

-- record i names x and y as its two ends
abbrev pub names : List ℕ → ℕ → ℕ → ℕ → Bool
names job i x y = ends (byte job i 1) (byte job i 2) x y

-- the map of the first k + 1 records: as many nodes as N says, linked where one of the k records after it names both
abbrev pub front : List ℕ → ℕ → Net
front job k = record { size = count_in job; links = λ x y. some_below (λ i. names job (suc i) x y) k }

-- the map of the whole job
abbrev pub described : List ℕ → Net
described job = front job (records job - 1)

-- record i is the first that is not good; of an empty job, 0
abbrev pub FirstBad : List ℕ → ℕ → Type 0
FirstBad job i = FirstUnfit (good job) (records job) i

-- every record is good, of which there is at least one
abbrev pub AllGood : List ℕ → Type 0
AllGood job = AllFit (good job) (records job)

-- why a job is refused: 2 or 13 by its length, or 14 at the first bad record; for no other reason
abbrev pub Refused : List ℕ → Refusal → Type 0
Refused job e = RefusedFor (good job) job e

-- what building answers: the described map where every record is good, else the refusal
abbrev pub Built : List ℕ → Result Map Refusal → Type 0
Built job (Ok m) = (length_rule (length job) ≡ Ok tt) × AllGood job × (net m ≡ described job)
Built job (Err e) = Refused job e
