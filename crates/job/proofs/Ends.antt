-- The end of a job: what its nodes can hold, its largest slot, and what is answered.
use Rattle.std.proofs.Common.{◌≡◌, ℕ, zero, suc, ◌<◌, ◌≤◌, max, fold, List, [], ◌∷◌, length, get_or, Some, None, Ok, Err, Option, Result, MatchResult, sym, refl, ap, ◌∙◌, subst, ap₂, inl, inr, ⊎_elim, take_all, arith}
use Rattle.std.proofs.lemmas.Bool.{cases_lt}
use Rattle.std.specs.List.{reduce}
use Rattle.std.specs.Option.{unwrap_or}
use Rattle.marks.specs.Below.{max_below}
use Rattle.marks.proofs.Below.{max_above, max_le}
use Rattle.refusal.specs.declared.Refusal.{Refusal}
use Rattle.map.specs.View.{nodes, net}
use Rattle.map.specs.declared.Map.{Map}
use Rattle.records.specs.Fields.{length_rule, records}
use Rattle.records.specs.Fits.{AllFit}
use Rattle.records.proofs.Fronts.{unfit_index}
use Rattle.text.specs.declared.Text.{Text}
use Rattle.text.specs.Written.{written, clip, refused_line}
use Rattle.text.proofs.Lines.{refused_short}
use Rattle.radio.specs.Coin.{CoinState, coin_ways, seeded}
use Rattle.radio.specs.Queue.{queue_ways}
use Rattle.radio.specs.Ways.{Ways, AirRule}
use Rattle.radio.specs.declared.message.Message.{Message}
use Rattle.rig.specs.Board.{Board}
use Rattle.law.proofs.Law.{holds, turn_few}
use Rattle.script.specs.Script.{good, described, seed_of, events}
use Rattle.script.specs.declared.Event.{Event}
use Rattle.job.specs.Play.{Stand, fresh, plays, PlaysOut}
use Rattle.job.specs.Listing.{Lists, Printed, coin, listing, listed_over, listed, PlaysOutOver, JobRuns}
use Rattle.job.specs.declared.playing.Play.{Play}
use Rattle.job.specs.Stands.{stand, shown}
use Rattle.job.proofs.Counts.{events_few}
use Rattle.job.proofs.Trails.{settles}
use Rattle.job.proofs.Rooms.{Short, listing_short}

-- the largest of a table

fold_above : (xs : List ℕ) (a k : ℕ) → (a ≤ fold max a xs) × (get_or xs k 0 ≤ fold max a xs)
fold_above [] a k = (omega arith, omega arith)
fold_above (x ∷ xs) a zero = let (le, _) = fold_above xs (max a x) 0 in (omega arith, omega arith)
fold_above (x ∷ xs) a (suc k) = let (le, on) = fold_above xs (max a x) k in (omega arith, on)

fold_within : (xs : List ℕ) (a m : ℕ) → a ≤ m → ((k : ℕ) → get_or xs k 0 ≤ m) → fold max a xs ≤ m
fold_within [] a m l h = l
fold_within (x ∷ xs) a m l h = fold_within xs (max a x) m (let first = h 0 in omega arith) (λ k. h (suc k))

reduced : (xs : List ℕ) → unwrap_or (reduce max xs) 0 ≡ fold max 0 xs
reduced [] = refl
reduced (x ∷ xs) = ap (λ (a : ℕ). fold max a xs) (let e : x ≡ max 0 x = omega arith in e)

-- where a table begins with the numbers of f, and has 0 past them, its largest is theirs
pub largest_of : (f : ℕ → ℕ) (n : ℕ) (table : List ℕ) → ((k : ℕ) → k < n → get_or table k 0 ≡ f k) → ((k : ℕ) → n ≤ k → get_or table k 0 ≡ 0) → unwrap_or (reduce max table) 0 ≡ max_below f n
largest_of f n table each past =
    let most = fold_within table 0 (max_below f n) (omega arith) (λ k. ⊎_elim (λ l. let e = each k l in let a = max_above f n k l in omega arith) (λ l. let z = past k l in omega arith) (cases_lt k n)) in
    let least = max_le f n (fold max 0 table) (λ k l. let e = each k l in let a = (fold_above table 0 k).1 in omega arith) in
    reduced table ∙ omega arith

-- the text of a job, from its listing or its refusal
pub printed : (job : List ℕ) (r : Result Text Refusal) (text : Text) → Lists job r → MatchResult r (λ t. text ≡ t) (λ e. written text ≡ clip (refused_line e)) → Printed job (written text)
printed job (Ok t) text (m, runs, is) same = inl (m, runs, ap written same ∙ is)
printed job (Err e) text why is = inr (e, why, is ∙ take_all 1024 (refused_line e) (refused_short e (unfit_index (good job) job e why)))

-- in the end of a run no number of a node is too long for a listing
pub short_end : {S : Type 0} (w : Ways S) → AirRule w → (m : Map) (es : List Event) (t : Stand S) → PlaysOut w m es t → (m' : Map) (b : Board) → m' ≡ m → b ≡ t.nodes → (k : ℕ) → k < nodes m' → Short b k
short_end w rule m es t s m' b em eb k l =
    let i = holds w rule m s.run.empty s.run.made in
    let inside = subst (λ (x : Map). k < nodes x) em l in
    subst (λ (x : Board). Short x k) (sym eb) (record { slot = i.fine.nodes.small k; turn = turn_few w rule m s.order t.nodes t.radio i k inside; round = i.fine.nodes.few k })

-- the end of a job, whose listing has space in a text

module _ {S : Type 0} (w : Ways S) (rule : AirRule w) (m : Map) (job : List ℕ) (s₀ : S) (empty : w.air s₀ ≡ []) where
  abbrev pub end : Stand S
  end = plays w m (events job) (fresh s₀)

  pub plays_out : PlaysOut w m (events job) end
  plays_out = settles w m s₀ rule empty (events job)

  end_short : (k : ℕ) → k < nodes m → Short end.nodes k
  end_short k l = short_end w rule m (events job) end plays_out m end.nodes refl refl k l

  module _ (p : Play) (s : S) (map : p.rig.map ≡ m) (after : stand p s ≡ end) where
    pub lists : listing p.rig.map (shown p) ≡ listing m end
    lists = ap (λ (x : Map). listing x (shown p)) map ∙ ap (λ (t : Stand S). listing m t) after

    pub list_short : records job ≤ 4096 → length (listing p.rig.map (shown p)) ≤ 1024
    list_short few =
        let counts = events_few w m job s₀ (records job) in
        let short = listing_short m end end_short (omega arith) in
        let e = ap length lists in
        omega arith

-- over which radio

module _ (m : Map) (job : List ℕ) (text : List ℕ) (fits : length_rule (length job) ≡ Ok tt) (all : AllFit (good job) (records job)) (says : net m ≡ described job) where
  over : (o : Option ℕ) → o ≡ seed_of job → PlaysOutOver m job o → text ≡ listed_over m job o → JobRuns job m × (text ≡ listed m job)
  over o e law is =
      (record { fits = fits; good = all; map = says; law = rw e at law }, rw e at is)

  pub over_queue : (o : Option ℕ) (s : List Message) → o ≡ seed_of job → o ≡ None → s ≡ [] → PlaysOut queue_ways m (events job) (plays queue_ways m (events job) (fresh s)) → text ≡ listing m (plays queue_ways m (events job) (fresh s))
      → (m : Map) × JobRuns job m × (text ≡ listed m job)
  over_queue o s e n d law is =
      let (runs, same) = over None (sym n ∙ e) (rw d at law) (rw d at is) in
      (m, runs, same)

  pub over_coin : (o : Option ℕ) (seed : ℕ) (s : CoinState) → o ≡ seed_of job → o ≡ Some seed → s.value ≡ seeded seed → s.waits ≡ [] → PlaysOut coin_ways m (events job) (plays coin_ways m (events job) (fresh s)) → text ≡ listing m (plays coin_ways m (events job) (fresh s))
      → (m : Map) × JobRuns job m × (text ≡ listed m job)
  over_coin o seed s e n v a law is =
      let d : s ≡ coin seed = ap₂ (λ (x : ℕ) (y : List Message). record { value = x; waits = y }) v a in
      let (runs, same) = over (Some seed) (sym n ∙ e) (rw d at law) (rw d at is) in
      (m, runs, same)
