use Rattle.std.proofs.Common.{[], refl, ◌∙◌}
use Rattle.rig.specs.Board.{new_board}
use Rattle.benches.specs.Paths.{path}
use Rattle.facts.proofs.Stands.{Stands, drew}
use Rattle.facts.proofs.Drawing.{three_drawn}
use Rattle.facts.proofs.rigs.draw_with.Goals as goal

pub returns : goal.returns
returns c =
    let rig = c.rig_on_path-rig.result in
    let first : Stands (path 3) new_board [] rig _ = record { map = c.rig_on_path-rig.ensures.map; nodes = c.rig_on_path-rig.ensures.nodes; radio = c.new-queue.ensures } in
    (drew first 0 c.args.number refl c.draw.ensures.value c.draw.ensures.made).answer ∙ three_drawn rig.map c.args.number
