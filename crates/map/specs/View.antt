-- What a map says: its nodes, who is linked, who contends, and how many.
use Rattle.std.specs.Prelude.{◌≡◌, ℕ, Bool, true, not, ◌&&◌, ◌||◌, ◌⊎◌, ◌==◌, ◌≢◌}
use Rattle.marks.specs.Below.{some_below, sum_below, count_below}
use Rattle.map.specs.Rows.{has}
use Rattle.map.specs.declared.Map.{Map}

-- how many nodes there are; they are the numbers below
abbrev pub nodes : Map → ℕ
nodes m = m.count

abbrev pub linked : Map → ℕ → ℕ → Bool
linked m a b = has m.rows a b

-- a and b are neighbours
abbrev pub Linked : Map → ℕ → ℕ → Type 0
Linked m a b = linked m a b ≡ true

-- two different nodes that are neighbours or have a common neighbour
abbrev pub Contend : Map → ℕ → ℕ → Type 0
Contend m a b = (a ≢ b) × (Linked m a b ⊎ ((k : ℕ) × Linked m a k × Linked m k b))

-- the same as a test
abbrev pub contend : Map → ℕ → ℕ → Bool
contend m a b = not (a == b) && (linked m a b || some_below (λ k. linked m a k && linked m k b) (nodes m))

-- how many neighbours n has, and how many contenders
abbrev pub degree : Map → ℕ → ℕ
degree m n = count_below (linked m n) (nodes m)

abbrev pub contender_count : Map → ℕ → ℕ
contender_count m n = count_below (contend m n) (nodes m)

-- how many pairs below n are related, each pair once: for each number, those below it
abbrev pub pairs : (ℕ → ℕ → Bool) → ℕ → ℕ
pairs related n = sum_below (λ a. count_below (related a) a) n

-- how many links there are
abbrev pub link_count : Map → ℕ
link_count m = pairs (linked m) (nodes m)

-- a map as a number and a relation: two maps with equal nets say the same
pub record Net : Type 0 where
  pub size : ℕ
  pub links : ℕ → ℕ → Bool

abbrev pub net : Map → Net
net m = record { size = nodes m; links = linked m }
