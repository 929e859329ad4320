-- What is told of a job: of the map that it describes, or of its refusal.
use Rattle.std.proofs.Common.{◌≡◌, ℕ, ◌⊎◌, List, Ok, Err, Result, ◌∙◌, inl, inr, take_all}
use Rattle.std.specs.Result.{MatchResult}
use Rattle.refusal.specs.declared.Refusal.{Refusal}
use Rattle.map.specs.declared.Map.{Map}
use Rattle.records.specs.Build.{Built}
use Rattle.records.proofs.Fronts.{refused_index}
use Rattle.text.specs.Written.{clip, refused_line}
use Rattle.text.proofs.Lines.{refused_short}

pub told : (of : Map → List ℕ) (job text : List ℕ) (r : Result Map Refusal) (P : Map → Type 0) (Q : Refusal → Type 0)
    → ((m : Map) → P m → text ≡ of m) → ((e : Refusal) → Q e → text ≡ clip (refused_line e)) → Built job r → MatchResult r P Q
    → ((m : Map) × Built job (Ok m) × (text ≡ of m)) ⊎ ((e : Refusal) × Built job (Err e) × (text ≡ refused_line e))
told of job text (Ok m) P Q p q b h = inl (m, b, p m h)
told of job text (Err e) P Q p q b h = inr (e, b, q e h ∙ take_all 1024 (refused_line e) (refused_short e (refused_index job e b)))
