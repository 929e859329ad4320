use Rattle.std.proofs.Common.{[], ◌∷◌, sym, refl, ap, ◌∙◌}
use Rattle.radio.specs.declared.message.Message.{Message}
use Rattle.rig.specs.Calm.{blank, at}
use Rattle.rig.specs.Board.{Board}
use Rattle.rig.specs.Steps.{grant}
use Rattle.benches.specs.Paths.{path}
use Rattle.facts.proofs.Stands.{Stands, came, told_is, put_alone}
use Rattle.facts.proofs.Meeting.{two}
use Rattle.facts.proofs.LateGrants.{again, late}
use Rattle.facts.proofs.rigs.late_grant.Goals as goal

pub returns : goal.returns
returns c =
    let rig = c.in_round_two-before.result in
    let slots = c.with.result in
    let message = ap (λ (x : Message). record { kind = x.kind; sender = x.sender; receiver = x.receiver; round = x.round; slot = x.slot; slots = slots }) c.new.ensures in
    let posted = put_alone c.new-queue.ensures message c.put.ensures in
    let s₀ : Stands (path 2) (two again blank) (grant slots 1 1 0 ∷ []) rig _ = record { map = c.in_round_two-before.ensures.map; nodes = c.in_round_two-before.ensures.nodes; radio = posted } in
    let s₁ = came s₀ (late rig.map slots) c.deliver-answer.ensures.value c.deliver-answer.ensures.made in
    let end = s₁.stands in
    record {
      map = end.map;
      asking = ap (λ (x : Board). (at x 0).phase) s₀.nodes;
      second = ap (λ (x : Board). (at x 0).round) s₀.nodes;
      answer = s₁.answer;
      phase = told_is end 0 (λ v. v.phase) c.phase-phase.result refl c.phase-phase.ensures;
      round = told_is end 0 (λ v. v.round) c.round-round.result refl c.round-round.ensures;
      granted = ap (λ (x : Board). (at x 0).granted) end.nodes;
      taken = ap (λ (x : Board). (at x 0).taken) end.nodes;
      stays = end.nodes ∙ sym s₀.nodes;
      sent = end.radio;
    }
