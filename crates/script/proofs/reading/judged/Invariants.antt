use Rattle.script.proofs.Drafts.{Reached}
use Rattle.script.proofs.reading.judged.Given as goal

abbrev pub invariant-loop-record : goal.invariant-loop-record
invariant-loop-record l = Reached l.fn.reader.job.now l.reader l.draft
