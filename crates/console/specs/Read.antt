-- What is read of a job's bytes.
use Rattle.std.specs.Prelude.{ℕ, List, take}

-- all that a job can have, and one byte more: 32769
abbrev pub front : List ℕ → List ℕ
front bytes = take 32769 bytes
