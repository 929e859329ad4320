use Rattle.std.proofs.Common.{refl}
use Rattle.marks.proofs.Sets.{marked-none}
use Rattle.marks.proofs.Marks.empty.Goals as goal

pub returns : goal.returns
returns c = record { value = refl; marks = marked-none }
