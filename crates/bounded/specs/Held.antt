-- The items of a bounded list.
use Rattle.std.specs.Prelude.{ℕ, cond, List, [], ◌∷◌, ◌++◌, length, take, nat_lt}
use Rattle.bounded.specs.declared.Bounded.{Bounded}

-- the items held, in order: the first of the places
abbrev pub held : {T : Type 0} {n : ℕ} → Bounded T n → List T
held b = take b.len b.items

-- one item more at the end, which is lost where n are held
abbrev pub pushed : {T : Type 0} → ℕ → List T → T → List T
pushed n xs x = cond (nat_lt (length xs) n) (xs ++ (x ∷ [])) xs
