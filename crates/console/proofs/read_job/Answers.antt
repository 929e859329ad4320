use Rattle.std.proofs.Common.{◌≡◌, ◌++◌, take, IfSome, subst}
use Rattle.std.specs.Option.{option_map}
use Rattle.console.proofs.Known.{known}
use Rattle.console.proofs.read_job.Goals as goal

pub returns : goal.returns
returns g c =
    let read = c.read_to_end.new.buf.items in
    let job = c.new-job.result.items in
    let left = g.R.Read.remaining in
    known (left c.args.input) job read c.take.result.limit c.new-job.ensures.items c.take.ensures.limit
    (subst (λ r. IfSome (option_map (take c.take.result.limit) (left r)) (λ bytes. read ≡ job ++ bytes)) c.take.ensures.inner c.in_ok-read_to_end.ensures.bytes)
