-- Jobs whose records are judged one by one by a test: all of them fit, or one is the first that does not.
use Rattle.std.specs.Prelude.{◌≡◌, ℕ, ◌<◌, Bool, true, false, ◌⊎◌, List, length, Ok, Err}
use Rattle.refusal.specs.declared.Refusal.{Refusal}
use Rattle.refusal.specs.declared.Refusal.TheVariants.{Short, Count, Node, SelfLink, Twice, Missing, Unlinked, Settled, Busy, Spent, Quiet, Foreign, Torn, Record}
use Rattle.records.specs.Fields.{length_rule, records}

-- of so many records, record i is the first that does not fit; of none, 0
pub record FirstUnfit (fit : ℕ → Bool) (count : ℕ) (i : ℕ) : Type 0 where
  pub before : (j : ℕ) → j < i → fit j ≡ true
  pub bad : fit i ≡ false
  pub there : (i < count) ⊎ ((i ≡ 0) × (count ≡ 0))

-- every record fits, of which there is at least one
pub record AllFit (fit : ℕ → Bool) (count : ℕ) : Type 0 where
  pub some : 0 < count
  pub each : (i : ℕ) → i < count → fit i ≡ true

-- why a job whose records are to fit is refused: 2 or 13 by its length, or 14 at the first record that does not; for no other reason
abbrev pub RefusedFor : (ℕ → Bool) → List ℕ → Refusal → Type 0
RefusedFor fit job Short = ⊥
RefusedFor fit job Count = length_rule (length job) ≡ Err Count
RefusedFor fit job Node = ⊥
RefusedFor fit job SelfLink = ⊥
RefusedFor fit job Twice = ⊥
RefusedFor fit job Missing = ⊥
RefusedFor fit job Unlinked = ⊥
RefusedFor fit job Settled = ⊥
RefusedFor fit job Busy = ⊥
RefusedFor fit job Spent = ⊥
RefusedFor fit job Quiet = ⊥
RefusedFor fit job Foreign = ⊥
RefusedFor fit job Torn = length_rule (length job) ≡ Err Torn
RefusedFor fit job (Record i) = (length_rule (length job) ≡ Ok tt) × FirstUnfit fit (records job) i
