use Rattle.std.proofs.Common.{[], refl, ap}
use Rattle.rig.specs.Board.{new_board, Board}
use Rattle.rig.specs.Calm.{at}
use Rattle.benches.specs.Paths.{path}
use Rattle.facts.proofs.Stands.{Stands, drew, told_is}
use Rattle.facts.proofs.Drawing.{lone_drawn}
use Rattle.facts.proofs.rigs.lone_node.Goals as goal

pub returns : goal.returns
returns c =
    let first : Stands (path 1) new_board [] c.rig_on_path-rig.result _ = record { map = c.rig_on_path-rig.ensures.map; nodes = c.rig_on_path-rig.ensures.nodes; radio = c.new-queue.ensures } in
    let after = drew first 0 1 (lone_drawn c.rig_on_path-rig.result.map) c.draw-answer.ensures.value c.draw-answer.ensures.made in
    let end = after.stands in
    record {
      map = end.map;
      answer = after.answer;
      slot = told_is end 0 (λ v. v.slot) c.slot-slot.result refl c.slot-slot.ensures;
      turn = told_is end 0 (λ v. v.turn) c.turn-turn.result refl c.turn-turn.ensures;
      held = ap (λ (x : Board). (at x 0).slot) end.nodes;
      place = ap (λ (x : Board). (at x 0).turn) end.nodes;
      silent = end.radio;
    }
