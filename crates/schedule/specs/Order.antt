-- What the planner answers, and the table that it leaves.
use Rattle.std.specs.Prelude.{◌≡◌, ℕ, ◌<◌, ◌≤◌, Bool, List, length, Ok, Err, Result, slice_index}
use Rattle.refusal.specs.Entry.{entry, Why}
use Rattle.refusal.specs.declared.Refusal.{Refusal}
use Rattle.schedule.specs.declared.checking.Verdict.TheVariants.{Accepted}
use Rattle.schedule.specs.Rand.{rand, IsRand, RandLaw, Repeats, FineTo, Fine}
use Rattle.schedule.specs.Sharing.{Checked}

-- the slots of a table, by item
abbrev pub entries : List ℕ → ℕ → ℕ
entries slots k = slice_index slots k

-- the entry at place i is the first that is wrong, and it is no item
abbrev pub NoItem : ℕ → List ℕ → Type 0
NoItem n order = (i : ℕ) × (i < length order) × FineTo n order i × (n ≤ slice_index order i)

-- the entry at place i is the first that is wrong, and it repeats
abbrev pub NamedTwice : ℕ → List ℕ → Type 0
NamedTwice n order = (i : ℕ) × (i < length order) × FineTo n order i × (slice_index order i < n) × Repeats order i

-- why an order is refused: 3 or 5, by its first wrong entry
abbrev pub Disordered : ℕ → List ℕ → ℕ → Type 0
Disordered n order number = Why number 3 (NoItem n order) (Why number 5 (NamedTwice n order) ⊥)

-- what the check of an order answers: every entry is an item below n and none repeats; or a refusal
abbrev pub Ordered : ℕ → List ℕ → Result (Unit {0}) Refusal → Type 0
Ordered n order (Ok _) = Fine n order
Ordered n order (Err e) = Disordered n order (entry e).number

-- the table after: RAND's slots for the items, every later entry as before; or a refusal, 1, 3 or 5, and the table as before
abbrev pub Planned : (ℕ → ℕ → Bool) → ℕ → List ℕ → List ℕ → List ℕ → Result (Unit {0}) Refusal → Type 0
Planned clash n order before after (Ok _) =
    (n ≤ length before) × Fine n order
    × ((k : ℕ) → k < n → slice_index after k ≡ rand clash n order k) × ((k : ℕ) → n ≤ k → slice_index after k ≡ slice_index before k)
Planned clash n order before after (Err e) =
    (after ≡ before) × Why (entry e).number 1 (length before < n) ((n ≤ length before) × Disordered n order (entry e).number)

-- what the planner writes has RAND's relation, the checker accepts it, and RAND keeps its laws
abbrev pub Sound : (ℕ → ℕ → Bool) → ℕ → List ℕ → List ℕ → Result (Unit {0}) Refusal → Type 0
Sound clash n order after (Ok _) = IsRand clash n order (entries after) × ((m : ℕ) × Checked clash n after (Ok (Accepted m))) × RandLaw clash n
Sound clash n order after (Err _) = Unit {0}

-- number tells the number to which a conversion takes each item
abbrev pub Numbers : {A : Type 0} → (A → ℕ → Type 0) → (A → ℕ) → Type 0
Numbers {A} converts number = (item : A) (n : ℕ) → converts item n → n ≡ number item
