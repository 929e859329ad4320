use Rattle.text.specs.Written.{written}
use Rattle.job.proofs.Ends.{over_coin, over_queue}
use Rattle.job.proofs.running.listed.Goals as goal

pub returns-in-Some : goal.returns-in-Some
returns-in-Some c =
    let (fits, all, says, seed) = c.in_ok-script.ensures in
    over_coin c.in_ok-script.script.map c.args.job.now (written c.play_and_list.result) fits all says c.in_ok-script.script.seed c.in-Some.seed
    _ seed c.in-Some.is c.new.ensures.value c.new.ensures.air c.play_and_list.ensures.law c.play_and_list.ensures.text

pub returns-in-None : goal.returns-in-None
returns-in-None c =
    let (fits, all, says, seed) = c.in_ok-script.ensures in
    over_queue c.in_ok-script.script.map c.args.job.now (written c.play_and_list-in-None.result) fits all says c.in_ok-script.script.seed
    _ seed c.in-None.is c.new-in-None.ensures c.play_and_list-in-None.ensures.law c.play_and_list-in-None.ensures.text
