-- The front of a job: what a draft has after its first records, record by record.
use Rattle.std.proofs.Common.{◌≡◌, ℕ, zero, suc, ◌+◌, ◌-◌, ◌<◌, ◌≤◌, Bool, true, false, cond, not, ◌&&◌, ◌||◌, eqb, ltb, List, get_or, is_some, Some, None, Option, sym, refl, ap, ◌∙◌, ap₂, arith}
use mathlib.Core.Bool.{or_comm}
use mathlib.Core.Path.{fun_ext}
use denote.Ref.{Bor}
use Rattle.std.proofs.lemmas.Bool.{lt-ltb, ne_eqb}
use Rattle.marks.specs.Below.{some_below}
use Rattle.map.specs.View.{Net, nodes, net}
use Rattle.map.specs.Calls.{bare, linked_up}
use Rattle.map.specs.declared.Map.{Map}
use Rattle.records.specs.declared.fields.Record.{Record as Fields}
use Rattle.records.specs.Fields.{records, record_at, number_of, taken}
use Rattle.records.specs.Reading.{Hands}
use Rattle.records.specs.declared.reading.Reader.{Reader}
use Rattle.records.specs.Build.{opens, joins, byte, count_in, names}
use Rattle.records.specs.Fits.{FirstUnfit}
use Rattle.records.proofs.Fronts.{here, step, byte_here, fit_on, fit_no_more, at_end}
use Rattle.script.specs.declared.reading.Draft.{Draft}
use Rattle.script.specs.declared.reading.Stage.TheVariants.{Second}
use Rattle.script.specs.Script.{event_of, seeds, event_at, links_at, seeds_at, event_before, good}
use Rattle.script.specs.Steps.{may_seed, may_link, fits, Follows, SetUp}

-- the map of the first k + 1 records
abbrev front : List ℕ → ℕ → Net
front job k = record { size = count_in job; links = λ x y. some_below (λ i. links_at job (suc i) && names job (suc i) x y) k }

-- the seed among the first k records
abbrev seed_to : List ℕ → ℕ → Option ℕ
seed_to job k = cond (ltb 1 k && seeds_at job 1) (Some (number_of (record_at job 1))) None

-- where a reader of a job stands after some records, all good, with the draft of those
pub record Reached (job : List ℕ) (s : Reader) (d : Draft) : Type 0 where
  pub same : s.job.now ≡ job
  pub past : 1 ≤ s.place
  pub each : (i : ℕ) → i < s.place → good job i ≡ true
  pub made : net d.script.map ≡ front job (s.place - 1)
  pub seed : d.script.seed ≡ seed_to job s.place
  pub seeding : may_seed d.stage ≡ eqb s.place 1
  pub linking : may_link d.stage ≡ not (event_before job (s.place - 1))

-- what `fits` asks, of its parts
abbrev asks : Bool → ℕ → Bool → Option Fields → Bool
asks seeding count linking r = (seeding && seeds r) || ((joins count r && linking) || is_some (event_of r))

not_or : (x y : Bool) → (not x && not y) ≡ not (y || x)
not_or true true = refl
not_or true false = refl
not_or false true = refl
not_or false false = refl

module _ (job : List ℕ) where
  good_later : (p : ℕ) → 1 ≤ p → good job p ≡ asks (eqb p 1) (count_in job) (not (event_before job (p - 1))) (taken (record_at job p))
  good_later zero l = absurd (omega arith)
  good_later (suc p) l =
      ap (λ (k : ℕ). asks (eqb (suc p) 1) (count_in job) (not (event_before job k)) (taken (record_at job (suc p)))) (let e : p ≡ suc p - 1 = omega arith in e)

  front_none : bare (count_in job) ≡ front job 0
  unfolding some_below
  front_none = refl

  front_more : (k : ℕ) (b : Bool) → links_at job (suc k) ≡ b → cond b (linked_up (front job k) (byte job (suc k) 1) (byte job (suc k) 2)) (front job k) ≡ front job (suc k)
  unfolding some_below
  front_more k true e =
      ap (λ (f : ℕ → ℕ → Bool). record { size = count_in job; links = f })
      (fun_ext (λ x. fun_ext (λ y. or_comm ((front job k).links x y) (names job (suc k) x y) ∙ ap (λ (b : Bool). (b && names job (suc k) x y) || (front job k).links x y) (sym e))))
  front_more k false e =
      ap (λ (f : ℕ → ℕ → Bool). record { size = count_in job; links = f })
      (fun_ext (λ x. fun_ext (λ y. ap (λ (b : Bool). (b && names job (suc k) x y) || (front job k).links x y) (sym e))))

  seed_more : (p : ℕ) → 1 ≤ p → cond (eqb p 1 && seeds (taken (record_at job p))) (Some (number_of (record_at job p))) (seed_to job p) ≡ seed_to job (p + 1)
  seed_more zero l = absurd (omega arith)
  seed_more (suc zero) l = refl
  seed_more (suc (suc k)) l =
      let p = suc (suc k) in
      let n : eqb p 1 ≡ false = ne_eqb p 1 (λ e. omega arith) in
      let a : ltb 1 p ≡ true = lt-ltb 1 p (omega arith) in
      let b : ltb 1 (p + 1) ≡ true = lt-ltb 1 (p + 1) (omega arith) in
      ap (λ (x : Bool). cond (x && seeds (taken (record_at job p))) (Some (number_of (record_at job p))) (seed_to job p)) n
      ∙ ap (λ (x : Bool). cond (x && seeds_at job 1) (Some (number_of (record_at job 1))) None) (a ∙ sym b)

  linking_none : true ≡ not (event_before job 0)
  unfolding some_below
  linking_none = refl

  linking_more : (k : ℕ) → (not (event_before job k) && not (is_some (event_at job (suc k)))) ≡ not (event_before job (suc k))
  unfolding some_below
  linking_more k = not_or (event_before job k) (is_some (event_at job (suc k)))

-- the reader s of a job handed out x, and then stood as t
module _ {job : List ℕ} {s t : Reader} {x : Bor (List ℕ)} (same : s.job.now ≡ job) (h : Hands s (Some x) t) where
  opens-good : s.place ≡ 0 → opens (taken x.now) ≡ good job s.place
  opens-good z =
      ap (λ (b : List ℕ). opens (taken b)) (here same h).1 ∙ ap (λ (i : ℕ). opens (taken (record_at job i))) z
      ∙ ap (good job) (sym z)

  pub first_good : (m : Map) → s.place ≡ 0 → opens (taken x.now) ≡ true → net m ≡ bare (get_or x.now 1 0)
      → Reached job t (record { script = record { map = m; seed = None }; stage = Second })
  first_good m z o e =
      let v = step same h in
      let b : t.place ≡ 1 = omega arith in
      let u : t.place - 1 ≡ 0 = omega arith in
      record {
        same = h.job ∙ same;
        past = omega arith;
        each = fit_on same h (good job) (λ i l. absurd (omega arith)) (sym (opens-good z) ∙ o);
        made = e ∙ ap bare (byte_here same h 1 (omega arith) ∙ ap (λ (i : ℕ). byte job i 1) z) ∙ front_none job ∙ ap (front job) (sym u);
        seed = ap (seed_to job) (sym b);
        seeding = ap (λ (i : ℕ). eqb i 1) (sym b);
        linking = linking_none job ∙ ap (λ (i : ℕ). not (event_before job i)) (sym u);
      }

  pub first_bad : s.place ≡ 0 → opens (taken x.now) ≡ false → FirstUnfit (good job) (records job) (t.place - 1)
  first_bad z o = fit_no_more same h (good job) (λ i l. absurd (omega arith)) (sym (opens-good z) ∙ o)

-- the reader s, which had reached the draft d of a job, handed out x, and then stood as t
module _ {job : List ℕ} {s t : Reader} {x : Bor (List ℕ)} {d : Draft} (at : Reached job s d) (h : Hands s (Some x) t) where
  size_is : nodes d.script.map ≡ count_in job
  size_is = ap (λ (n : Net). n.size) at.made

  is : x.now ≡ record_at job s.place
  is = (here at.same h).1

  links_is : joins (nodes d.script.map) (taken x.now) ≡ links_at job s.place
  links_is = ap₂ (λ (n : ℕ) (b : List ℕ). joins n (taken b)) size_is is

  fits-good : fits d (taken x.now) ≡ good job s.place
  fits-good =
      ap₂ (λ (b : Bool) (n : ℕ). asks b n (may_link d.stage) (taken x.now)) at.seeding size_is
      ∙ ap₂ (λ (b : Bool) (y : List ℕ). asks (eqb s.place 1) (count_in job) b (taken y)) at.linking is
      ∙ sym (good_later job s.place at.past)

  pub next_bad : fits d (taken x.now) ≡ false → FirstUnfit (good job) (records job) (t.place - 1)
  next_bad f = fit_no_more at.same h (good job) at.each (sym fits-good ∙ f)

  pub next_good : (n : Draft) → fits d (taken x.now) ≡ true → Follows d x.now n → Reached job t n
  next_good n f e =
      let v = step at.same h in
      let a = at.past in
      let o : t.place - 1 ≡ suc (s.place - 1) = omega arith in
      let u : s.place ≡ suc (s.place - 1) = omega arith in
      let b = λ (k : ℕ) (l : k < 8). byte_here at.same h k l ∙ ap (λ (i : ℕ). byte job i k) u in
      record {
        same = h.job ∙ at.same;
        past = omega arith;
        each = fit_on at.same h (good job) at.each (sym fits-good ∙ f);
        made = e.map
            ∙ ap₂ (λ (w : Net) (b : Bool). cond b (linked_up w (get_or x.now 1 0) (get_or x.now 2 0)) w) at.made (links_is ∙ ap (links_at job) u)
            ∙ ap₂ (λ (y z : ℕ). cond (links_at job (suc (s.place - 1))) (linked_up (front job (s.place - 1)) y z) (front job (s.place - 1))) (b 1 (omega arith)) (b 2 (omega arith))
            ∙ front_more job (s.place - 1) (links_at job (suc (s.place - 1))) refl ∙ ap (front job) (sym o);
        seed = e.seed
            ∙ ap₂ (λ (b : Bool) (y : Option ℕ). cond (b && seeds (taken x.now)) (Some (number_of x.now)) y) at.seeding at.seed
            ∙ ap (λ (y : List ℕ). cond (eqb s.place 1 && seeds (taken y)) (Some (number_of y)) (seed_to job s.place)) is
            ∙ seed_more job s.place at.past ∙ ap (seed_to job) (sym v);
        seeding = e.seeded ∙ sym (ne_eqb t.place 1 (λ w. omega arith));
        linking = e.linking
            ∙ ap₂ (λ (b : Bool) (y : List ℕ). b && not (is_some (event_of (taken y)))) at.linking (is ∙ ap (record_at job) u)
            ∙ linking_more job (s.place - 1) ∙ ap (λ (i : ℕ). not (event_before job i)) (sym o);
      }

-- at the last record

pub all_good : {job : List ℕ} {s t : Reader} {d : Draft} → Reached job s d → Hands s None t → SetUp job d.script
all_good {job} {s} at h =
    let e : s.place ≡ records job = at_end at.same h in
    let a = at.past in (
      record { some = omega arith; each = λ i l. at.each i (omega arith) },
      at.made ∙ ap (λ (k : ℕ). front job (k - 1)) e,
      at.seed ∙ ap (seed_to job) e,
    )
