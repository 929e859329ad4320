use Rattle.std.proofs.Common.{[], ◌∷◌}
use Rattle.rig.specs.Calm.{blank}
use Rattle.rig.specs.Steps.{reject}
use Rattle.benches.specs.Paths.{path}
use Rattle.facts.proofs.Stands.{Stands, drew, came, over, put_alone}
use Rattle.facts.proofs.Meeting.{two, draw_0}
use Rattle.facts.proofs.LateGrants.{rejected, draw_again}
use Rattle.facts.proofs.rigs.in_round_two.Goals as goal

pub returns : goal.returns
returns c =
    let rig = c.rig_on_path-rig.result in
    let s₀ : Stands (path 2) (two blank blank) [] rig _ = record { map = c.rig_on_path-rig.ensures.map; nodes = c.rig_on_path-rig.ensures.nodes; radio = c.new-queue.ensures } in
    let s₁ = drew s₀ 0 1 (draw_0 rig.map) c.draw.ensures.value c.draw.ensures.made in
    let s₂ = over {s' = reject 1 1 0 ∷ []} s₁.stands (put_alone c.new-answer.ensures c.new.ensures c.put.ensures) in
    let s₃ = came s₂ (rejected c.draw.new.self.map) c.deliver.ensures.value c.deliver.ensures.made in
    let s₄ = drew s₃.stands 0 1 (draw_again c.deliver.new.self.map) c.draw-2.ensures.value c.draw-2.ensures.made in
    record { map = s₄.stands.map; nodes = s₄.stands.nodes }
