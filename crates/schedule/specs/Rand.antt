-- RAND: each item of an order in turn gets the smallest slot from 1 that no clashing item holds. Slot 0 is none.
use Rattle.std.specs.Prelude.{◌≡◌, ℕ, zero, suc, ◌+◌, ◌<◌, ◌≤◌, Bool, true, cond, ◌&&◌, List, [], ◌∷◌, ◌++◌, length, ◌==◌, ◌≢◌, slice_index}
use Rattle.marks.specs.Below.{some_below, count_below}

-- as steps

-- the first number from s on that fails the test, or s + k where all from s to s + k - 1 pass
unfoldable pub first_from : (ℕ → Bool) → ℕ → ℕ → ℕ
first_from p s zero = s
first_from p s (suc k) = cond (p s) (first_from p (suc s) k) s

-- an item below n that clashes with a holds the slot s
abbrev pub holds : (ℕ → ℕ → Bool) → ℕ → (ℕ → ℕ) → ℕ → ℕ → Bool
holds clash n f a s = some_below (λ b. clash a b && f b == s) n

-- the smallest slot from 1 that no such item holds: n items leave one of the slots 1 to n + 1 free
unfoldable pub least : (ℕ → ℕ → Bool) → ℕ → (ℕ → ℕ) → ℕ → ℕ
least clash n f a = first_from (holds clash n f a) 1 n

-- the item a given that slot, every other item as before
abbrev pub put : (ℕ → ℕ → Bool) → ℕ → (ℕ → ℕ) → ℕ → ℕ → ℕ
put clash n f a k = cond (k == a) (least clash n f a) (f k)

-- the items of the order in turn, from the slots f
unfoldable pub from : (ℕ → ℕ → Bool) → ℕ → (ℕ → ℕ) → List ℕ → ℕ → ℕ
from clash n f [] = f
from clash n f (a ∷ order) = from clash n (put clash n f a) order

-- every item starts at 0
abbrev pub rand : (ℕ → ℕ → Bool) → ℕ → List ℕ → ℕ → ℕ
rand clash n order = from clash n (λ _. 0) order

-- as a relation

-- the entry at place i stands at an earlier place too
abbrev pub Repeats : List ℕ → ℕ → Type 0
Repeats order i = (j : ℕ) × (j < i) × (slice_index order j ≡ slice_index order i)

-- the first i entries are items below n, and none repeats
abbrev pub FineTo : ℕ → List ℕ → ℕ → Type 0
FineTo n order i = (j : ℕ) → j < i → (slice_index order j < n) × (Repeats order j → ⊥)

-- an order: it names items, and none twice
abbrev pub Fine : ℕ → List ℕ → Type 0
Fine n order = FineTo n order (length order)

-- item k stands in the order
abbrev pub Named : List ℕ → ℕ → Type 0
Named order k = (j : ℕ) × (j < length order) × (slice_index order j ≡ k)

-- an item at a place before i that clashes with the one at i holds the slot s
abbrev pub Held : (ℕ → ℕ → Bool) → List ℕ → (ℕ → ℕ) → ℕ → ℕ → Type 0
Held clash order f i s = (j : ℕ) × (j < i) × (clash (slice_index order i) (slice_index order j) ≡ true) × (f (slice_index order j) ≡ s)

-- s is the smallest slot from 1 that is not in use
pub record Smallest (Used : ℕ → Type 0) (s : ℕ) : Type 0 where
  pub slot : 1 ≤ s
  pub free : Used s → ⊥
  pub below : (t : ℕ) → 1 ≤ t → t < s → Used t

-- f gives RAND's slots: items outside the order hold 0, and the item at a place holds the smallest slot from 1 that no clashing item at
-- an earlier place holds
pub record IsRand (clash : ℕ → ℕ → Bool) (n : ℕ) (order : List ℕ) (f : ℕ → ℕ) : Type 0 where
  pub outside : (k : ℕ) → k < n → (Named order k → ⊥) → f k ≡ 0
  pub inside : (i : ℕ) → i < length order → Smallest (Held clash order f i) (f (slice_index order i))

-- how many items that clash with the one at place i stand before it
abbrev pub ahead : (ℕ → ℕ → Bool) → List ℕ → ℕ → ℕ
ahead clash order i = count_below (λ j. clash (slice_index order i) (slice_index order j)) i

-- what RAND keeps under a clash rule of n items
pub record RandLaw (clash : ℕ → ℕ → Bool) (n : ℕ) : Type 0 where
  -- the steps give slots that have the relation, and no others have it
  pub agrees : (order : List ℕ) → Fine n order → IsRand clash n order (rand clash n order)
  pub only : (order : List ℕ) (f : ℕ → ℕ) → Fine n order → IsRand clash n order f → (k : ℕ) → k < n → f k ≡ rand clash n order k
  -- no two clashing items of an order share a slot
  pub clean : (order : List ℕ) → Fine n order → (i j : ℕ) → i < length order → j < length order → clash (slice_index order i) (slice_index order j) ≡ true → rand clash n order (slice_index order i) ≢ rand clash n order (slice_index order j)
  -- an item's slot is at most one more than the clashing items before it
  pub low : (order : List ℕ) → Fine n order → (i : ℕ) → i < length order → rand clash n order (slice_index order i) ≤ 1 + ahead clash order i
  -- appending an item to an order changes the slot of no other item
  pub appended : (order : List ℕ) (a k : ℕ) → (k ≢ a) → rand clash n (order ++ (a ∷ [])) k ≡ rand clash n order k
