-- The checker's verdict on the slots of a rig.
use Rattle.std.proofs.Common.{◌≡◌, ℕ, List, Ok, Result, ap, ◌∙◌, arith}
use Rattle.marks.proofs.Below.{max_like}
use Rattle.refusal.specs.declared.Refusal.{Refusal}
use Rattle.map.specs.View.{nodes, contend}
use Rattle.map.specs.declared.Map.{Map}
use Rattle.schedule.specs.Order.{entries}
use Rattle.schedule.specs.Sharing.{Checked}
use Rattle.schedule.specs.declared.checking.Verdict.{Verdict}
use Rattle.schedule.specs.declared.checking.Verdict.TheVariants.{Accepted}
use Rattle.schedule.proofs.Accept.{checked_only}
use Rattle.radio.specs.Ways.{Ways, AirRule}
use Rattle.rig.specs.declared.Rig.{Rig}
use Rattle.rig.specs.Calm.{at}
use Rattle.rig.specs.Questions.{Slots}
use Rattle.law.specs.Law.{Tells, frame}
use Rattle.law.proofs.Law.{every_run}
use Rattle.runs.specs.Performed.{Audited}

pub slots_tell : (rig : Rig) (table : List ℕ) → Slots rig table → Tells rig.map rig.nodes table
slots_tell rig table t = record { long = let l = t.long in let n = rig.map.most in omega arith; each = t.each }

pub audit_is : {S : Type 0} (w : Ways S) → AirRule w → (rig : Rig) (s : S) (m : Map) (table : List ℕ) (verdict : Result Verdict Refusal)
    → m ≡ rig.map → Slots rig table → Checked (contend m) (nodes m) table verdict → Audited w rig.map rig.nodes s verdict
audit_is w rule rig s m table verdict e t c = record {
  checked = (table, tells, here);
  accepted = λ calls answers order run.
      let law = (every_run w rule rig.map rig.nodes s calls answers order run).0 in
      checked_only (contend rig.map) (nodes rig.map) table (frame rig.map rig.nodes) (law.accepted table tells) verdict here
      ∙ ap (λ (x : ℕ). Ok (Accepted x)) (max_like (entries table) (λ k. (at rig.nodes k).slot) (nodes rig.map) tells.each);
}
  where
    tells : Tells rig.map rig.nodes table
    tells = slots_tell rig table t

    here : Checked (contend rig.map) (nodes rig.map) table verdict
    here = rw e at c
