-- The numbers by which the rules list the kinds of messages, and which kind a byte stands for.
use Rattle.std.specs.Prelude.{◌≡◌, ℕ, ◌<◌, ◌⊎◌, Result, MatchResult}
use Rattle.radio.specs.declared.kind.Kind.{Kind}
use Rattle.radio.specs.declared.kind.Kind.TheVariants.{Request, Grant, Reject, Release, Fail}
use Rattle.radio.specs.declared.kind.UnknownKind.{UnknownKind}

-- the byte that stands for a kind
abbrev pub kind_number : Kind → ℕ
kind_number Request = 1
kind_number Grant = 2
kind_number Reject = 3
kind_number Release = 4
kind_number Fail = 5

-- the byte stands for no kind: it is not 1 to 5
abbrev pub NoKind : ℕ → Type 0
NoKind byte = (byte ≡ 0) ⊎ (5 < byte)

-- the kind that the byte stands for, or an error with a byte that stands for none
abbrev pub Decodes : ℕ → Result Kind UnknownKind → Type 0
Decodes byte r = MatchResult r (λ kind. kind_number kind ≡ byte) (λ e. (e.0 ≡ byte) × NoKind byte)
