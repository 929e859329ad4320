use Rattle.std.proofs.Common.{[], ◌∷◌, ◌++◌, codes}
use Rattle.text.specs.Written.{written, spaced}
use Rattle.text.proofs.Clip.{and_then}
use Rattle.report.specs.Overview.{verdict_text}
use Rattle.report.proofs.writing.push_totals.Goals as goal

pub returns : goal.returns
returns c =
    let s = written c.args.text.now in
    let ns = c.args.numbers.now in
    let v = verdict_text c.args.verdict in
    let word = written c.push_str.new.self in
    let numbers = written c.push_numbers.new.self in
    let verdict = written c.push_verdict.new.text in
    let last = written c.push.new.self in
    and_then s word last (codes "total") (spaced ns ++ (v ++ (10 ∷ []))) c.push_str.ensures
    (and_then word numbers last (spaced ns) (v ++ (10 ∷ [])) c.push_numbers.ensures
    (and_then numbers verdict last v (10 ∷ []) c.push_verdict.ensures c.push.ensures))
