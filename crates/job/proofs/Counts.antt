-- How much the events of a job can count.
use Rattle.std.proofs.Common.{◌≡◌, ℕ, zero, suc, ◌+◌, ◌*◌, ◌≤◌, List, [], ◌∷◌, ◌++◌, Some, None, Ok, Err, Option, refl, arith}
use Rattle.std.specs.Option.{option_to_list}
use Rattle.std.proofs.lemmas.Bool.{cond_both}
use Rattle.map.specs.declared.Map.{Map}
use Rattle.records.specs.declared.fields.Record.{Record as Fields}
use Rattle.records.specs.Fields.{record_at, taken}
use Rattle.radio.specs.Ways.{Ways}
use Rattle.law.specs.declared.Answer.{Answer}
use Rattle.law.specs.declared.Answer.TheVariants.{Drawn, Delivered, Nudged}
use Rattle.law.specs.declared.Call.{Call}
use Rattle.law.specs.declared.Call.TheVariants.{Draw, Deliver, Nudge}
use Rattle.script.specs.declared.Event.{Event}
use Rattle.script.specs.declared.Event.TheVariants.{Draw as DrawEvent, Deliver as DeliverEvent, Nudge as NudgeEvent}
use Rattle.script.specs.Script.{event_of, event_at, events_to}
use Rattle.script.proofs.EventLists.{deliver_most}
use Rattle.job.specs.Play.{Stand, fresh, brought, failed, nothing, answered, called, up_to, played, plays}
use Rattle.job.specs.Stands.{calls}

abbrev pub counted : {S : Type 0} → Stand S → ℕ
counted t = t.came + t.refused

-- an answer counts once at most
once : (a : Answer) → brought a + failed a ≤ 1
once (Drawn (Ok _)) = omega arith
once (Drawn (Err _)) = omega arith
once (Delivered (Ok None)) = omega arith
once (Delivered (Ok (Some _))) = omega arith
once (Delivered (Err _)) = omega arith
once (Nudged (Ok _)) = omega arith
once (Nudged (Err _)) = omega arith

-- an event of a record makes at most 4096 calls
pub calls_few : (r : Option Fields) (e : Event) → event_of r ≡ Some e → calls e ≤ 4096
calls_few r (DrawEvent k v) h = omega arith
calls_few r (DeliverEvent n) h = (deliver_most r n h).1
calls_few r (NudgeEvent k) h = omega arith

module _ {S : Type 0} (w : Ways S) (m : Map) where
  pub called_few : (t : Stand S) (c : Call) → counted (called w m t c) ≤ counted t + 1
  called_few t c = let o = once (answered w m t c) in omega arith

  up_to_few : (n : ℕ) (t : Stand S) → counted (up_to w m n t) ≤ counted t + n
  unfolding up_to
  up_to_few zero t = omega arith
  up_to_few (suc n) t =
      let one = called_few t Deliver in
      let on = up_to_few n (called w m t Deliver) in
      cond_both (nothing (answered w m t Deliver)) (called w m t Deliver) (up_to w m n (called w m t Deliver)) (λ u. counted u ≤ counted t + suc n) (λ _. omega arith) (λ _. omega arith)

  played_few : (e : Event) (t : Stand S) → counted (played w m e t) ≤ counted t + calls e
  played_few (DrawEvent k v) t = called_few t (Draw k v)
  played_few (DeliverEvent n) t = up_to_few n t
  played_few (NudgeEvent k) t = called_few t (Nudge k)

  record_few : (o : Option Event) (t : Stand S) → ((e : Event) → o ≡ Some e → calls e ≤ 4096) → counted (plays w m (option_to_list o) t) ≤ counted t + 4096
  record_few None t h = omega arith
  record_few (Some e) t h = let l = h e refl in let p = played_few e t in omega arith

  pub plays_then : (xs ys : List Event) (t : Stand S) → plays w m (xs ++ ys) t ≡ plays w m ys (plays w m xs t)
  plays_then [] ys t = refl
  plays_then (x ∷ xs) ys t = plays_then xs ys (played w m x t)

  -- the events of k records count 4096 times k at most
  pub events_few : (job : List ℕ) (s : S) (k : ℕ) → counted (plays w m (events_to job k) (fresh s)) ≤ 4096 * k
  unfolding events_to
  events_few job s zero = omega arith
  events_few job s (suc k) =
      let h = events_few job s k in
      let on = record_few (event_at job k) (plays w m (events_to job k) (fresh s)) (calls_few (taken (record_at job k))) in
      rw (plays_then (events_to job k) (option_to_list (event_at job k)) (fresh s)) (omega arith)
