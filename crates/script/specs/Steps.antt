-- Reading a job record by record: what the next one may be, and what it adds; for inner functions, no public contract rests on it.
use Rattle.std.specs.Prelude.{◌≡◌, ℕ, Bool, true, false, cond, not, ◌&&◌, ◌||◌, List, is_some, Some, Option, slice_index}
use Rattle.map.specs.View.{nodes, net}
use Rattle.map.specs.Calls.{linked_up}
use Rattle.records.specs.declared.fields.Record.{Record as Fields}
use Rattle.records.specs.Fields.{records, number_of, taken}
use Rattle.records.specs.Build.{joins}
use Rattle.records.specs.Fits.{AllFit}
use Rattle.script.specs.declared.Script.{Script}
use Rattle.script.specs.declared.reading.Draft.{Draft}
use Rattle.script.specs.declared.reading.Stage.{Stage}
use Rattle.script.specs.declared.reading.Stage.TheVariants.{Second, Links, Events}
use Rattle.script.specs.Script.{event_of, seeds, good, described, seed_of}

-- a seed may come next
abbrev pub may_seed : Stage → Bool
may_seed Second = true
may_seed Links = false
may_seed Events = false

-- a link may come next
abbrev pub may_link : Stage → Bool
may_link Second = true
may_link Links = true
may_link Events = false

-- the record is what its place allows: a seed, a link, or an event
abbrev pub fits : Draft → Option Fields → Bool
fits d r = (may_seed d.stage && seeds r) || ((joins (nodes d.script.map) r && may_link d.stage) || is_some (event_of r))

-- the draft e is d with a record xs that fits: a link joins the map, a seed is noted, an event ends the links, and any record the time for a seed
pub record Follows (d : Draft) (xs : List ℕ) (e : Draft) : Type 0 where
  pub map : net e.script.map ≡ cond (joins (nodes d.script.map) (taken xs)) (linked_up (net d.script.map) (slice_index xs 1) (slice_index xs 2)) (net d.script.map)
  pub seed : e.script.seed ≡ cond (may_seed d.stage && seeds (taken xs)) (Some (number_of xs)) d.script.seed
  pub seeded : may_seed e.stage ≡ false
  pub linking : may_link e.stage ≡ (may_link d.stage && not (is_some (event_of (taken xs))))

-- every record is good, and this is what they set up
abbrev pub SetUp : List ℕ → Script → Type 0
SetUp job s = AllFit (good job) (records job) × (net s.map ≡ described job) × (s.seed ≡ seed_of job)
