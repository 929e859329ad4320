-- Two clashing items that share a slot, and what a checker answers.
use Rattle.std.specs.Prelude.{◌≡◌, ℕ, ◌<◌, ◌≤◌, Bool, true, ◌⊎◌, List, length, Some, None, Ok, Err, Option, Result, slice_index, slice_index_or}
use Rattle.refusal.specs.Entry.{entry, Why}
use Rattle.refusal.specs.declared.Refusal.{Refusal}
use Rattle.schedule.specs.declared.checking.Verdict.{Verdict}
use Rattle.schedule.specs.declared.checking.Verdict.TheVariants.{Accepted, Clash}

-- a and b clash and hold the same slot other than 0
pub record Shares (clash : ℕ → ℕ → Bool) (slots : List ℕ) (a b : ℕ) : Type 0 where
  pub placed : 0 < slice_index slots a
  pub same : slice_index_or slots b 0 ≡ slice_index slots a
  pub clashing : clash a b ≡ true

-- no item after a and below b shares with a
abbrev pub Alone : (ℕ → ℕ → Bool) → List ℕ → ℕ → ℕ → Type 0
Alone clash slots a b = (y : ℕ) → a < y → y < b → Shares clash slots a y → ⊥

-- no two of the n items share
abbrev pub Clear : (ℕ → ℕ → Bool) → ℕ → List ℕ → Type 0
Clear clash n slots = (x y : ℕ) → x < n → y < n → Shares clash slots x y → ⊥

-- a and b share; no item below a shares with a later one, and none after a and below b shares with a
pub record FirstPair (clash : ℕ → ℕ → Bool) (n : ℕ) (slots : List ℕ) (a b : ℕ) : Type 0 where
  pub after : a < b
  pub inside : b < n
  pub shares : Shares clash slots a b
  pub first : (x : ℕ) → x < a → Alone clash slots x n
  pub second : Alone clash slots a b

-- m is the largest of the first n slots, or 0 where there is none
pub record Largest (n : ℕ) (slots : List ℕ) (m : ℕ) : Type 0 where
  pub above : (k : ℕ) → k < n → slice_index slots k ≤ m
  pub there : (m ≡ 0) ⊎ ((k : ℕ) × (k < n) × (slice_index slots k ≡ m))

-- the first item after a that shares with it
abbrev pub Partner : (ℕ → ℕ → Bool) → ℕ → List ℕ → ℕ → Option ℕ → Type 0
Partner clash n slots a None = Alone clash slots a n
Partner clash n slots a (Some b) = (a < b) × (b < n) × Shares clash slots a b × Alone clash slots a b

-- the verdict on a table: no two items share, with the largest slot; or the first pair that does
abbrev pub Judged : (ℕ → ℕ → Bool) → ℕ → List ℕ → Verdict → Type 0
Judged clash n slots (Accepted largest) = Clear clash n slots × Largest n slots largest
Judged clash n slots (Clash pair) = FirstPair clash n slots pair.0 pair.1

-- what the checker answers: the verdict, or 1 for a table that is shorter than the items
abbrev pub Checked : (ℕ → ℕ → Bool) → ℕ → List ℕ → Result Verdict Refusal → Type 0
Checked clash n slots (Ok verdict) = (n ≤ length slots) × Judged clash n slots verdict
Checked clash n slots (Err e) = Why (entry e).number 1 (length slots < n) ⊥
