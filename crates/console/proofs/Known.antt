-- What is read of bytes that are known.
use Rattle.std.proofs.Common.{◌≡◌, ℕ, List, [], ◌++◌, take, None, Some, IfSome, Option, ap₂, ◌∙◌}
use Rattle.std.specs.Option.{option_map}
use Rattle.console.specs.Read.{front}

pub known : (left : Option (List ℕ)) (before read : List ℕ) (limit : ℕ) → before ≡ [] → limit ≡ 32769 → IfSome (option_map (take limit) left) (λ bytes. read ≡ before ++ bytes)
    → IfSome left (λ bytes. read ≡ front bytes)
known None before read limit none most h = tt
known (Some bytes) before read limit none most h = h ∙ ap₂ (λ (xs : List ℕ) (k : ℕ). xs ++ take k bytes) none most
