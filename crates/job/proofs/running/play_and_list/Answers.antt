use Rattle.std.proofs.Common.{◌∙◌}
use Rattle.radio.specs.Ways.{AirRule}
use Rattle.job.proofs.Ends.{plays_out, lists, list_short}
use Rattle.job.proofs.running.play_and_list.Goals as goal

pub list-requires : goal.list-requires
list-requires g c =
    let met = g.met.R.Radio in
    let rule : AirRule g.R.Radio.ways = record { put_air = met.put_air; take_air = met.take_air; taken_air = met.taken_air } in
    list_short _ rule _ _ _ c.requires.empty c.play_all-play.result _ c.play_all-play.ensures.map c.play_all-play.ensures.after c.requires.few

pub returns : goal.returns
returns g c =
    let met = g.met.R.Radio in
    let rule : AirRule g.R.Radio.ways = record { put_air = met.put_air; take_air = met.take_air; taken_air = met.taken_air } in
    record {
      law = plays_out _ rule _ _ _ c.requires.empty;
      text = c.list.ensures ∙ lists _ rule _ _ _ c.requires.empty c.play_all-play.result _ c.play_all-play.ensures.map c.play_all-play.ensures.after;
    }
