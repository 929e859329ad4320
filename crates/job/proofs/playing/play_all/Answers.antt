use Rattle.std.proofs.Common.{ap, ◌∙◌}
use Rattle.rig.specs.Board.{Board}
use Rattle.records.specs.declared.reading.Reader.{Reader}
use Rattle.job.proofs.Turns.{through_none, through_more, through_room, through_all}
use Rattle.job.proofs.playing.play_all.Goals as goal

pub loop-record-init : goal.loop-record-init
loop-record-init g c =
    let reader = c.into_iter-record-iterator.ensures.into_iter_gives in
    through_none _ _ _ _ _ _ (ap (λ (r : Reader). r.job.now) reader ∙ c.new-record-items.ensures.job) (ap (λ (r : Reader). r.place) reader ∙ c.new-record-items.ensures.place) c.open.ensures.map
    (ap (λ (b : Board). record { nodes = b; radio = g.R.Radio.state c.args.radio.now; came = 0; refused = 0 }) c.open.ensures.nodes)

pub take-requires : goal.take-requires
take-requires g c = through_room _ _ _ _ c.loop-record.invariant c.in-Some.ensures.steps c.requires

pub loop-record-preserved : goal.loop-record-preserved
loop-record-preserved g c = through_more _ _ _ _ c.loop-record.invariant c.in-Some.ensures.steps c.take.ensures

pub returns-clause-map : goal.returns-clause-map
returns-clause-map g c = c.loop-record.invariant.map

pub returns-clause-after : goal.returns-clause-after
returns-clause-after g c = through_all _ _ _ _ c.loop-record.invariant c.in-None.ensures.steps
