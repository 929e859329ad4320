use Rattle.std.proofs.Common.{[], refl, ap}
use Rattle.rig.specs.Board.{Board}
use Rattle.rig.specs.Calm.{blank, at}
use Rattle.benches.specs.Paths.{path}
use Rattle.facts.proofs.Stands.{Stands, drew, came, told_is}
use Rattle.facts.proofs.Meeting.{two, draw_0, draw_1, request_1, request_0, reject_0, reject_1, fail_1, fail_0, nothing}
use Rattle.facts.proofs.rigs.both_request.Goals as goal

pub returns : goal.returns
returns c =
    let rig = c.rig_on_path-rig.result in
    let s₀ : Stands (path 2) (two blank blank) [] rig _ = record { map = c.rig_on_path-rig.ensures.map; nodes = c.rig_on_path-rig.ensures.nodes; radio = c.new-queue.ensures } in
    let s₁ = drew s₀ 0 1 (draw_0 rig.map) c.draw.ensures.value c.draw.ensures.made in
    let s₂ = drew s₁.stands 1 1 (draw_1 c.draw.new.self.map) c.draw-2.ensures.value c.draw-2.ensures.made in
    let s₃ = came s₂.stands (request_1 c.draw-2.new.self.map) c.deliver.ensures.value c.deliver.ensures.made in
    let s₄ = came s₃.stands (request_0 c.deliver.new.self.map) c.deliver-2.ensures.value c.deliver-2.ensures.made in
    let s₅ = came s₄.stands (reject_0 c.deliver-2.new.self.map) c.deliver-3.ensures.value c.deliver-3.ensures.made in
    let s₆ = came s₅.stands (reject_1 c.deliver-3.new.self.map) c.deliver-4.ensures.value c.deliver-4.ensures.made in
    let s₇ = came s₆.stands (fail_1 c.deliver-4.new.self.map) c.deliver-5.ensures.value c.deliver-5.ensures.made in
    let s₈ = came s₇.stands (fail_0 c.deliver-5.new.self.map) c.deliver-6.ensures.value c.deliver-6.ensures.made in
    let s₉ = came s₈.stands (nothing c.deliver-6.new.self.map) c.deliver-7.ensures.value c.deliver-7.ensures.made in
    let end = s₉.stands in
    record {
      map = end.map;
      draws = simp (s₁.answer, s₂.answer);
      deliveries = simp (s₃.answer, s₄.answer, s₅.answer, s₆.answer, s₇.answer, s₈.answer, s₉.answer);
      phases = simp (told_is end 0 (λ v. v.phase) c.phase.result refl c.phase.ensures, told_is end 1 (λ v. v.phase) c.phase-2.result refl c.phase-2.ensures);
      slots = simp (told_is end 0 (λ v. v.slot) c.slot.result refl c.slot.ensures, told_is end 1 (λ v. v.slot) c.slot-2.result refl c.slot-2.ensures);
      first = (ap (λ (x : Board). (at x 0).phase) end.nodes, ap (λ (x : Board). (at x 0).slot) end.nodes);
      other = (ap (λ (x : Board). (at x 1).phase) end.nodes, ap (λ (x : Board). (at x 1).slot) end.nodes);
      empty = end.radio;
    }
