use Rattle.std.proofs.Common.{◌≡◌, ◌+◌, not, rules, ap, ◌∙◌}
use Rattle.map.specs.View.{linked, nodes}
use Rattle.radio.specs.declared.message.Message.{Message}
use Rattle.radio.specs.Ways.{puts}
use Rattle.rig.specs.declared.node.Node.{Node}
use Rattle.rig.specs.Board.{each}
use Rattle.rig.specs.Calm.{at}
use Rattle.rig.specs.Steps.{addressed, request, to_all}
use Rattle.rig.proofs.Neighbours.{no_neighbour}
use Rattle.rig.proofs.Draws.{Wins, drawn_asks, drawn_settles}
use Rattle.rig.proofs.Rig.draw.Goals as goal

pub returns-then-is_empty : goal.returns-then-is_empty
returns-then-is_empty g c =
    let r = g.R.Radio in
    let rig = c.args.self.now in
    let wins : Wins rig c.args.k c.args.v = record { inside = search rules; undecided = search rules; free = search rules; room = search rules; wins = search rules } in
    let alone = no_neighbour rig.map c.args.k c.neighbours.result c.is_empty.result c.neighbours.ensures.marks c.is_empty.ensures.marks ∙ ap not c.if-is_empty.true in
    let d = drawn_settles r.ways rig _ _ _ c.args.k c.args.v wins _ alone c.settle.ensures.map c.settle.ensures.nodes c.settle.ensures.radio (search rules) in
    record { made = d.made; value = d.value; lawful = d.lawful }

pub returns : goal.returns
returns g c =
    let r = g.R.Radio in
    let rig = c.args.self.now in
    let m = rig.map in
    let k = c.args.k in
    let s = r.state c.args.radio.now in
    let wins : Wins rig k c.args.v = record { inside = search rules; undecided = search rules; free = search rules; room = search rules; wins = search rules } in
    let near = no_neighbour m k c.neighbours.result c.is_empty.result c.neighbours.ensures.marks c.is_empty.ensures.marks ∙ ap not c.if-is_empty.false in
    let node : c.in_ok-node.node ≡ at rig.nodes k = search rules in
    let radio = c.send_to_all.ensures
    ∙ ap (λ (x : Message). puts r.ways s (each (linked m x.sender) (addressed x) (nodes m))) c.new.ensures
    ∙ ap (λ (v : Node). puts r.ways s (to_all m k (request (v.round + 1) k))) node in
    let d = drawn_asks r.ways rig _ _ _ k c.args.v wins near (search rules) (search rules) radio in
    record { made = d.made; value = d.value; lawful = d.lawful }
