-- Deliveries one by one, and events one by one.
use Rattle.std.proofs.Common.{Some, None, ◌≡◌, ℕ, suc, ◌+◌, ◌-◌, ◌<◌, ◌≤◌, Bool, true, false, cond, List, sym, refl, ap, ◌∙◌, arith}
use Rattle.std.specs.Option.{option_to_list}
use Rattle.map.specs.declared.Map.{Map}
use denote.Ref.{Bor}
use Rattle.records.specs.declared.reading.Reader.{Reader}
use Rattle.records.specs.Fields.{records, handed, taken}
use Rattle.records.specs.Reading.{Hands}
use Rattle.records.proofs.Fronts.{here, step, handed_none}
use Rattle.radio.specs.Ways.{Ways}
use Rattle.law.specs.declared.Answer.{Answer}
use Rattle.law.specs.declared.Call.TheVariants.{Deliver}
use Rattle.script.specs.declared.Event.{Event}
use Rattle.script.specs.Script.{event_of, event_at, events_to, events}
use Rattle.script.proofs.EventLists.{events_none, events_more}
use Rattle.job.specs.declared.playing.Play.{Play}
use Rattle.job.specs.Play.{Stand, fresh, nothing, answered, called, up_to, plays}
use Rattle.job.specs.Stands.{Room, Went, stand}
use Rattle.job.proofs.Counts.{counted, called_few, plays_then, events_few}

module _ {S : Type 0} (w : Ways S) where
  -- deliveries

  up_to_none : (m : Map) (t : Stand S) → up_to w m 0 t ≡ t
  unfolding up_to
  up_to_none m t = refl

  up_to_more : (m : Map) (n : ℕ) (t : Stand S) (v : Bool) → nothing (answered w m t Deliver) ≡ v → up_to w m (suc n) t ≡ cond v (called w m t Deliver) (up_to w m n (called w m t Deliver))
  unfolding up_to
  up_to_more m n t v e = ap (λ (b : Bool). cond b (called w m t Deliver) (up_to w m n (called w m t Deliver))) e

  module _ (times : ℕ) (p₀ : Play) (s₀ : S) where
    -- i of the deliveries are made, and each brought something: those that are left lead on to the same end
    pub record Turned (i : ℕ) (p : Play) (s : S) : Type 0 where
      pub map : p.rig.map ≡ p₀.rig.map
      pub left : up_to w p₀.rig.map times (stand p₀ s₀) ≡ up_to w p₀.rig.map (times - i) (stand p s)
      pub few : p.came + p.refused ≤ p₀.came + p₀.refused + i

    pub turned_none : Turned 0 p₀ s₀
    turned_none = record { map = refl; left = ap (λ (k : ℕ). up_to w p₀.rig.map k (stand p₀ s₀)) (let d : times ≡ times - 0 = omega arith in d); few = omega arith }

    module _ (i : ℕ) (p p' : Play) (s s' : S) (a : Answer) (t : Turned i p s) (l : i < times)
        (went : Went p p' s' (called w p.rig.map (stand p s) Deliver)) (is : a ≡ answered w p.rig.map (stand p s) Deliver) where
      after : stand p' s' ≡ called w p₀.rig.map (stand p s) Deliver
      after = went.after ∙ ap (λ (m : Map). called w m (stand p s) Deliver) t.map

      next : (v : Bool) → nothing a ≡ v → up_to w p₀.rig.map times (stand p₀ s₀) ≡ cond v (stand p' s') (up_to w p₀.rig.map (times - (i + 1)) (stand p' s'))
      next v n =
          let d : times - i ≡ suc (times - (i + 1)) = omega arith in
          t.left ∙ ap (λ (k : ℕ). up_to w p₀.rig.map k (stand p s)) d
          ∙ up_to_more p₀.rig.map (times - (i + 1)) (stand p s) v (ap (λ (m : Map). nothing (answered w m (stand p s) Deliver)) (sym t.map) ∙ ap nothing (sym is) ∙ n)
          ∙ ap (λ (u : Stand S). cond v u (up_to w p₀.rig.map (times - (i + 1)) u)) (sym after)

      -- something came
      pub turned_more : nothing a ≡ false → Turned (i + 1) p' s'
      turned_more n = record {
        map = went.map ∙ t.map;
        left = next false n;
        few = (let f = t.few in let o = called_few w p.rig.map (stand p s) Deliver in let e = ap counted went.after in omega arith);
      }

      -- nothing came
      pub turned_off : nothing a ≡ true → Went p₀ p' s' (up_to w p₀.rig.map times (stand p₀ s₀))
      turned_off n = record { map = went.map ∙ t.map; after = sym (next true n) }

    -- all are made
    pub turned_all : (i : ℕ) (p : Play) (s : S) → Turned i p s → times ≤ i → Went p₀ p s (up_to w p₀.rig.map times (stand p₀ s₀))
    turned_all i p s t l =
        let d : times - i ≡ 0 = omega arith in
        record { map = t.map; after = sym (t.left ∙ ap (λ (k : ℕ). up_to w p₀.rig.map k (stand p s)) d ∙ up_to_none p₀.rig.map (stand p s)) }

  -- records

  module _ (m : Map) (job : List ℕ) (s₀ : S) where
    -- the events of the records that a reader of the job has handed out are played
    pub record Through (r : Reader) (p : Play) (s : S) : Type 0 where
      pub same : r.job.now ≡ job
      pub map : p.rig.map ≡ m
      pub after : stand p s ≡ plays w m (events_to job r.place) (fresh s₀)

    pub through_none : (r : Reader) (p : Play) → r.job.now ≡ job → r.place ≡ 0 → p.rig.map ≡ m → stand p s₀ ≡ fresh s₀ → Through r p s₀
    through_none r p same z e d = record { same = same; map = e; after = d ∙ ap (λ (es : List Event). plays w m es (fresh s₀)) (sym (ap (events_to job) z ∙ events_none job)) }

    module _ {r r' : Reader} {p : Play} {s : S} (t : Through r p s) where
      -- one record more
      pub through_more : {x : Bor (List ℕ)} {p' : Play} {s' : S} → Hands r (Some x) r' → Went p p' s' (plays w p.rig.map (option_to_list (event_of (taken x.now))) (stand p s)) → Through r' p' s'
      through_more {x} h went = record {
        same = h.job ∙ t.same;
        map = went.map ∙ t.map;
        after = went.after ∙ ap (λ (k : Map). plays w k (option_to_list (event_of (taken x.now))) (stand p s)) t.map
            ∙ ap (λ (xs : List ℕ). plays w m (option_to_list (event_of (taken xs))) (stand p s)) (here t.same h).1
            ∙ ap (plays w m (option_to_list (event_at job r.place))) t.after
            ∙ sym (plays_then w m (events_to job r.place) (option_to_list (event_at job r.place)) (fresh s₀))
            ∙ ap (λ (es : List Event). plays w m es (fresh s₀)) (sym (ap (events_to job) (step t.same h) ∙ events_more job r.place));
      }

      -- 4096 calls for each record so far, at most: the next one has room
      pub through_room : {x : Bor (List ℕ)} → Hands r (Some x) r' → records job ≤ 4096 → Room p 4096
      through_room h few = let inside = (here t.same h).0 in let f = events_few w m job s₀ r.place in let e = ap counted t.after in omega arith

      -- all records
      pub through_all : Hands r None r' → stand p s ≡ plays w m (events job) (fresh s₀)
      through_all h =
          let past = handed_none job r.place (h.value ∙ ap (λ (b : List ℕ). handed b r.place) t.same) in
          let inside = r.inside in
          let few = ap records t.same in
          t.after ∙ ap (λ (k : ℕ). plays w m (events_to job k) (fresh s₀)) (let e : r.place ≡ records job = omega arith in e)
