use Rattle.std.proofs.Common.{◌≡◌, ℕ, List, [], ◌∷◌, ◌++◌, Ok, Err, codes, Result, sym, ap, ◌∙◌, ap₂}
use Rattle.refusal.specs.declared.Refusal.{Refusal}
use Rattle.schedule.specs.declared.checking.Verdict.{Verdict}
use Rattle.schedule.specs.declared.checking.Verdict.TheVariants.{Accepted, Clash}
use Rattle.text.specs.Written.{written, clip, spaced}
use Rattle.text.proofs.Clip.{and_then}
use Rattle.report.specs.Overview.{verdict_text}
use Rattle.report.proofs.writing.push_verdict.Goals as goal

-- what is written of an answer, by what the answer is
written_of : (s u : List ℕ) (v w : Result Verdict Refusal) → v ≡ w → u ≡ clip (s ++ verdict_text w) → u ≡ clip (s ++ verdict_text v)
written_of s u v w e h = h ∙ ap (λ (r : Result Verdict Refusal). clip (s ++ verdict_text r)) (sym e)

pub returns-in-Ok-Accepted : goal.returns-in-Ok-Accepted
returns-in-Ok-Accepted c =
    let s = written c.args.text.now in
    written_of s (written c.push_str.new.self) c.args.verdict (Ok (Accepted c.in-Ok-Accepted.largest)) (let is = c.in-Ok-Accepted.is in let told = c.in-Ok-Accepted.field-0-is in is ∙ ap (λ (t : Verdict). Ok t) (rw is at told))
    (and_then s (written c.push_numbers.new.self) (written c.push_str.new.self) (spaced (c.from.result ∷ [])) (codes " accepted") c.push_numbers.ensures c.push_str.ensures
    ∙ ap (λ (x : ℕ). clip (s ++ (spaced (x ∷ []) ++ codes " accepted"))) c.from.ensures)

pub returns-in-Ok-Clash : goal.returns-in-Ok-Clash
returns-in-Ok-Clash c =
    let s = written c.args.text.now in
    written_of s (written c.push_numbers-in-Ok-Clash.new.self) c.args.verdict (Ok (Clash c.in-Ok-Clash.pair)) (let is = c.in-Ok-Clash.is in let told = c.in-Ok-Clash.field-0-is in is ∙ ap (λ (t : Verdict). Ok t) (rw is at told))
    (and_then s (written c.push_str-in-Ok-Clash.new.self) (written c.push_numbers-in-Ok-Clash.new.self) (codes " clash") (spaced (c.from-in-Ok-Clash.result ∷ (c.from-in-Ok-Clash-2.result ∷ [])))
    c.push_str-in-Ok-Clash.ensures c.push_numbers-in-Ok-Clash.ensures
    ∙ ap₂ (λ (x y : ℕ). clip (s ++ (codes " clash" ++ spaced (x ∷ (y ∷ []))))) c.from-in-Ok-Clash.ensures c.from-in-Ok-Clash-2.ensures)

pub returns-in-Err : goal.returns-in-Err
returns-in-Err c =
    let s = written c.args.text.now in
    written_of s (written c.push_numbers-in-Err.new.self) c.args.verdict (Err c.in-Err.refusal) c.in-Err.is
    (and_then s (written c.push_str-in-Err.new.self) (written c.push_numbers-in-Err.new.self) (codes " refused") (spaced (c.from-in-Err-2.result ∷ []))
    c.push_str-in-Err.ensures c.push_numbers-in-Err.ensures
    ∙ ap (λ (x : ℕ). clip (s ++ (codes " refused" ++ spaced (x ∷ [])))) (c.from-in-Err-2.ensures ∙ c.from-in-Err.ensures))
