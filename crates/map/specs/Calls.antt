-- What opening and linking answer, and the map they leave.
use Rattle.std.specs.Prelude.{◌≡◌, ℕ, Bool, false, cond, ◌&&◌, ◌||◌, Ok, Err, Result, ◌==◌, nat_le, nat_lt}
use Rattle.refusal.specs.declared.Refusal.{Refusal}
use Rattle.refusal.specs.declared.Refusal.TheVariants.{Count, Node, SelfLink}
use Rattle.map.specs.View.{Net, net}
use Rattle.map.specs.declared.Map.{Map}

-- so many nodes without a link
abbrev pub bare : ℕ → Net
bare count = record { size = count; links = λ _ _. false }

-- x and y are a and b, in either order
abbrev pub ends : ℕ → ℕ → ℕ → ℕ → Bool
ends a b x y = (x == a && y == b) || (x == b && y == a)

-- one link more, and every other pair as before
abbrev pub linked_up : Net → ℕ → ℕ → Net
linked_up n a b = record { size = n.size; links = λ x y. n.links x y || ends a b x y }

-- opening: 2, `Count`, unless there are 1 to 64 nodes
abbrev pub opening : ℕ → Result (Unit {0}) Refusal
opening count = cond (nat_le 1 count && nat_le count 64) (Ok tt) (Err Count)

-- linking: 3, `Node`, unless both ends are below the count; then 4, `SelfLink`, if they are the same
abbrev pub linking : ℕ → ℕ → ℕ → Result (Unit {0}) Refusal
linking count a b = cond (nat_lt a count && nat_lt b count) (cond (a == b) (Err SelfLink) (Ok tt)) (Err Node)

-- the map after a call that makes this net where it is accepted: a refusal leaves the map that was there
abbrev pub Left : Result (Unit {0}) Refusal → Net → Map → Map → Type 0
Left (Ok _) n before after = net after ≡ n
Left (Err _) n before after = after ≡ before
