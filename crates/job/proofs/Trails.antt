-- The events of a job make a run.
use Rattle.std.proofs.Common.{◌≡◌, ℕ, zero, suc, ◌+◌, ◌<◌, Bool, true, false, ◌⊎◌, List, [], ◌∷◌, ◌++◌, map, length, get_or, replicate, None, Ok, Option, Result, refl, ap, inl, inr, append_assoc, append-nil, arith}
use Rattle.refusal.specs.declared.Refusal.{Refusal}
use Rattle.map.specs.declared.Map.{Map}
use Rattle.radio.specs.declared.kind.Kind.{Kind}
use Rattle.radio.specs.Ways.{Ways, AirRule}
use Rattle.rig.specs.Board.{new_board}
use Rattle.rig.specs.Steps.{delivered, drawn, nudged}
use Rattle.law.specs.declared.Call.{Call}
use Rattle.law.specs.declared.Call.TheVariants.{Draw, Deliver, Nudge}
use Rattle.law.specs.declared.Answer.{Answer}
use Rattle.law.specs.declared.Answer.TheVariants.{Delivered}
use Rattle.law.specs.Runs.{Calls, none, more, Run}
use Rattle.law.proofs.Law.{every_run}
use Rattle.script.specs.declared.Event.{Event}
use Rattle.script.specs.declared.Event.TheVariants.{Draw as DrawEvent, Deliver as DeliverEvent, Nudge as NudgeEvent}
use Rattle.job.specs.Play.{Stand, fresh, brought, failed, nothing, answered, called, up_to, played, plays, total, Delivers, Plays, none as unplayed, draws, delivers, nudges, PlaysOut}

total_then : (count : Answer → ℕ) (xs ys : List Answer) → total count (xs ++ ys) ≡ total count xs + total count ys
total_then count [] ys = omega arith
total_then count (x ∷ xs) ys = let e = total_then count xs ys in omega arith

module _ {S : Type 0} (w : Ways S) (m : Map) (s₀ : S) where
  -- calls from a new rig that lead to the stand t, which counts their answers
  record Led (calls : List Call) (answers : List Answer) (order : List ℕ) (t : Stand S) : Type 0 where
    made : Calls w m new_board s₀ calls answers order t.nodes t.radio
    came : t.came ≡ total brought answers
    refused : t.refused ≡ total failed answers

  led_more : (calls : List Call) (answers : List Answer) (order : List ℕ) (t : Stand S) → Led calls answers order t → (c : Call)
      → (order' : List ℕ) × Led (calls ++ (c ∷ [])) (answers ++ (answered w m t c ∷ [])) order' (called w m t c)
  led_more calls answers order t l c = (
    _,
    record {
      made = more l.made c;
      came = (let e = l.came in let d = total_then brought answers (answered w m t c ∷ []) in omega arith);
      refused = (let e = l.refused in let d = total_then failed answers (answered w m t c ∷ []) in omega arith);
    },
  )

  -- up to n deliveries

  -- what a delivery answers
  abbrev result : Stand S → Result (Option Kind) Refusal
  result t = (delivered m t.nodes (w.taken t.radio)).answer

  record Delivered_on (n : ℕ) (calls : List Call) (answers : List Answer) (t : Stand S) : Type 0 where
    results : List (Result (Option Kind) Refusal)
    order : List ℕ
    fits : Delivers n results
    led : Led (calls ++ replicate (length results) Deliver) (answers ++ map Delivered results) order (up_to w m n t)

  none_delivered : (calls : List Call) (answers : List Answer) (order : List ℕ) (t : Stand S) → Led calls answers order t → Delivered_on 0 calls answers t
  unfolding up_to
  none_delivered calls answers order t l = record {
    results = [];
    order = order;
    fits = record { most = omega arith; before = λ i h. absurd (omega arith); last = inl refl };
    led = simp append-nil l;
  }

  last_delivered : (n : ℕ) (calls : List Call) (answers : List Answer) (order : List ℕ) (t : Stand S) → Led calls answers order t → nothing (answered w m t Deliver) ≡ true → Delivered_on (suc n) calls answers t
  unfolding up_to
  last_delivered n calls answers order t l e =
      let (order', led) = led_more calls answers order t l Deliver in
      record {
        results = result t ∷ [];
        order = order';
        fits = record { most = omega arith; before = λ i h. absurd (omega arith); last = inr (0, refl, e) };
        led = rw e led;
      }

  more_delivered : (n : ℕ) (calls : List Call) (answers : List Answer) (t : Stand S) → nothing (answered w m t Deliver) ≡ false
      → Delivered_on n (calls ++ (Deliver ∷ [])) (answers ++ (answered w m t Deliver ∷ [])) (called w m t Deliver) → Delivered_on (suc n) calls answers t
  unfolding up_to
  more_delivered n calls answers t e d = record {
    results = result t ∷ d.results;
    order = d.order;
    fits = record { most = (let h = d.fits.most in omega arith); before = before; last = last d.fits.last };
    led = rw e (simp append_assoc at d.led);
  }
    where
      before : (i : ℕ) → suc i < length (result t ∷ d.results) → nothing (Delivered (get_or (result t ∷ d.results) i (Ok None))) ≡ false
      before zero h = e
      before (suc i) h = d.fits.before i (omega arith)

      last : (length d.results ≡ n) ⊎ ((i : ℕ) × (length d.results ≡ suc i) × (nothing (Delivered (get_or d.results i (Ok None))) ≡ true))
          → (length (result t ∷ d.results) ≡ suc n) ⊎ ((i : ℕ) × (length (result t ∷ d.results) ≡ suc i) × (nothing (Delivered (get_or (result t ∷ d.results) i (Ok None))) ≡ true))
      last (inl h) = inl (ap suc h)
      last (inr (i, h, q)) = inr (suc i, ap suc h, q)

  delivered_on : (n : ℕ) (calls : List Call) (answers : List Answer) (order : List ℕ) (t : Stand S) → Led calls answers order t → Delivered_on n calls answers t
  delivered_on zero calls answers order t l = none_delivered calls answers order t l
  delivered_on (suc n) calls answers order t l =
      let (order', led) = led_more calls answers order t l Deliver in
      go (nothing (answered w m t Deliver)) refl (delivered_on n (calls ++ (Deliver ∷ [])) (answers ++ (answered w m t Deliver ∷ [])) order' (called w m t Deliver) led)
    where
      go : (b : Bool) → nothing (answered w m t Deliver) ≡ b → Delivered_on n (calls ++ (Deliver ∷ [])) (answers ++ (answered w m t Deliver ∷ [])) (called w m t Deliver) → Delivered_on (suc n) calls answers t
      go true e d = last_delivered n calls answers order t l e
      go false e d = more_delivered n calls answers t e d

  -- event after event

  record Trail (done : List Event) (t : Stand S) : Type 0 where
    calls : List Call
    answers : List Answer
    order : List ℕ
    plays : Plays done calls answers
    led : Led calls answers order t

  trail_more : (done : List Event) (t : Stand S) → Trail done t → (e : Event) → Trail (done ++ (e ∷ [])) (played w m e t)
  trail_more done t l (DrawEvent k v) =
      let (order, led) = led_more l.calls l.answers l.order t l.led (Draw k v) in
      record { calls = _; answers = _; order = order; plays = draws l.plays k v (drawn m t.nodes k v).answer; led = led }
  trail_more done t l (DeliverEvent n) =
      let d = delivered_on n l.calls l.answers l.order t l.led in
      record { calls = _; answers = _; order = d.order; plays = delivers l.plays n d.results d.fits; led = d.led }
  trail_more done t l (NudgeEvent k) =
      let (order, led) = led_more l.calls l.answers l.order t l.led (Nudge k) in
      record { calls = _; answers = _; order = order; plays = nudges l.plays k (nudged m t.nodes k).answer; led = led }

  trail_on : (es done : List Event) (t : Stand S) → Trail done t → Trail (done ++ es) (plays w m es t)
  trail_on [] done t l = rw append-nil l
  trail_on (e ∷ es) done t l =
      rw append_assoc at (trail_on es (done ++ (e ∷ [])) (played w m e t) (trail_more done t l e))

  -- from a new rig, over a radio with nothing in its air
  pub settles : AirRule w → w.air s₀ ≡ [] → (es : List Event) → PlaysOut w m es (plays w m es (fresh s₀))
  settles rule empty es = record {
    calls = l.calls;
    answers = l.answers;
    order = l.order;
    plays = l.plays;
    run = run;
    came = l.led.came;
    refused = l.led.refused;
    law = (every_run w rule m _ _ l.calls l.answers l.order run).0;
  }
    where
      l : Trail es (plays w m es (fresh s₀))
      l = trail_on es [] (fresh s₀) (record { calls = []; answers = []; order = []; plays = unplayed; led = record { made = none; came = refl; refused = refl } })

      run : Run w m l.calls l.answers l.order (plays w m es (fresh s₀)).nodes (plays w m es (fresh s₀)).radio
      run = record { start = s₀; empty = empty; made = l.led.made }
