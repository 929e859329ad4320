-- A reader's place in its job, and what a call of `next` gives.
use Rattle.std.specs.Prelude.{◌≡◌, ℕ, ◌+◌, ◌-◌, cond, List, Option, nat_lt}
use Rattle.std.specs.Option.{option_map}
use denote.Ref.{Bor}
use Rattle.records.specs.declared.reading.Reader.{Reader}
use Rattle.records.specs.Fields.{records, handed}

-- how many records a reader has left
abbrev pub left : Reader → ℕ
left s = records s.job.now - s.place

-- a call of `next` from s gave what its place hands out, and left t: one place on, or, after the last whole record, at the same place; in the same job
pub record Hands (s : Reader) (r : Option (Bor (List ℕ))) (t : Reader) : Type 0 where
  pub value : option_map (λ x. x.now) r ≡ handed s.job.now s.place
  pub place : t.place ≡ cond (nat_lt s.place (records s.job.now)) (s.place + 1) s.place
  pub job : t.job.now ≡ s.job.now
