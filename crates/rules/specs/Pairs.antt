-- Lists of node pairs, and which places of a list clash.
use Rattle.std.specs.Prelude.{◌≡◌, ℕ, ◌<◌, Bool, not, ◌&&◌, ◌||◌, ◌⊎◌, List, length, ◌==◌, ◌≢◌, nat_lt, slice_index_or}
use Rattle.map.specs.View.{linked, Linked}
use Rattle.map.specs.declared.Map.{Map}

-- the pair at place i
abbrev pub pair_at : List (ℕ × ℕ) → ℕ → ℕ × ℕ
pair_at pairs i = slice_index_or pairs i (0, 0)

-- the first i pairs are links of the map
abbrev pub LinksTo : Map → List (ℕ × ℕ) → ℕ → Type 0
LinksTo m pairs i = (j : ℕ) → j < i → Linked m (pair_at pairs j).0 (pair_at pairs j).1

-- x is an end of the pair
abbrev pub End : ℕ × ℕ → ℕ → Type 0
End p x = (x ≡ p.0) ⊎ (x ≡ p.1)

-- an end of one pair is an end of the other, or a neighbour of one
abbrev pub Close : Map → ℕ × ℕ → ℕ × ℕ → Type 0
Close m p q = (x : ℕ) × (y : ℕ) × End p x × End q y × ((x ≡ y) ⊎ Linked m x y)

-- two different places of the list whose pairs are close
abbrev pub LinkClash : Map → List (ℕ × ℕ) → ℕ → ℕ → Type 0
LinkClash m pairs a b = (a < length pairs) × ((b < length pairs) × ((a ≢ b) × Close m (pair_at pairs a) (pair_at pairs b)))

-- the same as tests
abbrev pub near : Map → ℕ → ℕ → Bool
near m x y = x == y || linked m x y

abbrev pub close : Map → ℕ × ℕ → ℕ × ℕ → Bool
close m p q = (near m p.0 q.0 || near m p.0 q.1) || (near m p.1 q.0 || near m p.1 q.1)

abbrev pub link_clash : Map → List (ℕ × ℕ) → ℕ → ℕ → Bool
link_clash m pairs a b = nat_lt a (length pairs) && (nat_lt b (length pairs) && (not (a == b) && close m (pair_at pairs a) (pair_at pairs b)))
