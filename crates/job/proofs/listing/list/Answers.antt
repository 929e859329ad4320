use Rattle.std.proofs.Common.{ℕ, List, [], ◌∷◌, ◌++◌, codes, ap, ◌∙◌}
use Rattle.map.specs.View.{nodes}
use Rattle.text.specs.Written.{written, clip, line_end}
use Rattle.text.proofs.Clip.{and_then, whole}
use Rattle.job.specs.Stands.{shown}
use Rattle.job.specs.Listing.{rows, listing}
use Rattle.job.proofs.listing.list.Goals as goal

pub returns : goal.returns
returns c =
    let play = c.args.play.now in
    let s = written c.new-text.result in
    let first = written c.push_rows.new.text in
    let word = written c.push_str.new.self in
    let last = written c.end_line.new.self in
    let ends : ℕ → List ℕ = λ v. line_end (c.args.play.now.came ∷ (c.args.play.now.refused ∷ (v ∷ []))) in
    whole s last (listing c.args.play.now.rig.map (shown c.args.play.now)) c.new-text.ensures c.requires
    (and_then s first last (rows c.args.play.now.rig.nodes (nodes c.args.play.now.rig.map)) (codes "end" ++ ends c.from.result) c.push_rows.ensures
    (and_then first word last (codes "end") (ends c.from.result) c.push_str.ensures c.end_line.ensures)
    ∙ ap (λ (v : ℕ). clip (s ++ (rows c.args.play.now.rig.nodes (nodes c.args.play.now.rig.map) ++ (codes "end" ++ ends v)))) (c.from.ensures ∙ c.largest.ensures))
