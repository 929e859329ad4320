-- The events of a job: one record more, how many there are, and how often one delivers.
use Rattle.std.proofs.Common.{◌≡◌, ℕ, zero, suc, ◌+◌, ◌≤◌, List, [], ◌++◌, length, Some, None, Option, refl, ap, arith, length-append}
use Rattle.std.specs.Option.{option_to_list}
use Rattle.std.proofs.lemmas.Bool.Decides.{nat_tests}
use Rattle.records.specs.declared.fields.Record.{Record as Fields}
use Rattle.records.specs.Fields.{records}
use Rattle.script.specs.declared.Event.{Event}
use Rattle.script.specs.declared.Event.TheVariants.{Deliver}
use Rattle.script.specs.Script.{event_of, event_at, events_to, events}

pub events_none : (job : List ℕ) → events_to job 0 ≡ []
unfolding events_to
events_none job = refl

pub events_more : (job : List ℕ) (p : ℕ) → events_to job (p + 1) ≡ events_to job p ++ option_to_list (event_at job p)
unfolding events_to
events_more job p = ap (events_to job) (let e : p + 1 ≡ suc p = omega arith in e)

listed : (o : Option Event) → length (option_to_list o) ≤ 1
listed None = omega arith
listed (Some e) = omega arith

pub events_to_few : (job : List ℕ) (k : ℕ) → length (events_to job k) ≤ k
unfolding events_to
events_to_few job zero = omega arith
events_to_few job (suc k) =
    let n = events_to_few job k in
    let s = length-append (events_to job k) (option_to_list (event_at job k)) in
    let o = listed (event_at job k) in
    omega arith

pub events_few : (job : List ℕ) → length (events job) ≤ records job
events_few job = events_to_few job (records job)

-- an event that delivers does so 1 to 4096 times
pub deliver_most : (r : Option Fields) (n : ℕ) → event_of r ≡ Some (Deliver n) → (1 ≤ n) × (n ≤ 4096)
deliver_most None n e = (grind (arith, nat_tests), grind (arith, nat_tests))
deliver_most (Some r) n e = (grind (arith, nat_tests), grind (arith, nat_tests))
