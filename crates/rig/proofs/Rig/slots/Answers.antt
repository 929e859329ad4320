use Rattle.std.proofs.Common.{refl, arith}
use Rattle.rig.proofs.Empty.{zeros}
use Rattle.rig.proofs.Rig.slots.Goals as goal

pub loop-k-init : goal.loop-k-init
loop-k-init c = (refl, (λ j l. absurd (let z : ⊥ = omega arith in z)), (λ j _. zeros 64 j))
