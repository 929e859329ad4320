-- The front of a job: what its first records make, record by record.
use Rattle.std.proofs.Common.{◌≡◌, ℕ, zero, suc, ◌+◌, ◌-◌, ◌*◌, ◌<◌, ◌≤◌, Bool, true, false, ◌⊎◌, List, length, get_or, drop, Some, None, Ok, Option, MatchOption, sym, refl, ap, ◌∙◌, ap₂, inl, inr, arith, length-take, get_or-drop, get_or-take}
use mathlib.Core.Bool.{or_comm}
use mathlib.Core.Path.{fun_ext}
use denote.Ref.{Bor}
use Rattle.std.proofs.lemmas.Bool.{ne_eqb, cases_eq}
use Rattle.std.proofs.lemmas.Bool.Decides.{nat_tests}
use Rattle.marks.specs.Below.{some_below}
use Rattle.refusal.specs.declared.Refusal.{Refusal}
use Rattle.refusal.specs.declared.Refusal.TheVariants.{Record}
use Rattle.refusal.specs.Entry.{entry}
use Rattle.map.specs.View.{Net, net}
use Rattle.map.specs.Calls.{bare, linked_up}
use Rattle.map.specs.declared.Map.{Map}
use Rattle.records.specs.declared.reading.Reader.{Reader}
use Rattle.records.specs.Fields.{length_rule, records, record_at, handed, taken}
use Rattle.records.specs.Build.{opens, joins, byte, count_in, good, names, front, described, FirstBad, AllGood, Refused}
use Rattle.records.specs.Fits.{FirstUnfit, RefusedFor}
use Rattle.records.specs.Reading.{Hands}

-- a job that is not too long
pub length_ok : (n : ℕ) → length_rule n ≡ Ok tt → n ≤ 32768
length_ok n e = grind (arith, nat_tests)

-- where a reader of a job stands after some records, all good, with the map of those
pub record Reached (job : List ℕ) (s : Reader) (n : Net) : Type 0 where
  pub same : s.job.now ≡ job
  pub past : 1 ≤ s.place
  pub each : (i : ℕ) → i < s.place → good job i ≡ true
  pub made : n ≡ front job (s.place - 1)

module _ (job : List ℕ) where
  byte_at : (i k : ℕ) → k < 8 → get_or (record_at job i) k 0 ≡ byte job i k
  byte_at i k l = get_or-take 8 (drop (8 * i) job) k 0 l ∙ get_or-drop (8 * i) job k 0

  good_link : (p : ℕ) → 1 ≤ p → good job p ≡ joins (count_in job) (taken (record_at job p))
  good_link zero l = absurd (omega arith)
  good_link (suc p) l = refl

  front_none : bare (count_in job) ≡ front job 0
  unfolding some_below
  front_none = refl

  front_more : (k : ℕ) → linked_up (front job k) (byte job (suc k) 1) (byte job (suc k) 2) ≡ front job (suc k)
  unfolding some_below
  front_more k =
      ap (λ (f : ℕ → ℕ → Bool). record { size = count_in job; links = f })
      (fun_ext (λ x. fun_ext (λ y. or_comm (some_below (λ i. names job (suc i) x y) k) (names job (suc k) x y))))

-- what a reader hands out

pub handed_some : (job xs : List ℕ) (p : ℕ) → Some xs ≡ handed job p → (p < records job) × (xs ≡ record_at job p)
handed_some job xs p e = (grind (arith, nat_tests), grind (arith, nat_tests))

pub handed_none : (job : List ℕ) (p : ℕ) → None ≡ handed job p → records job ≤ p
handed_none job p e = grind (arith, nat_tests)

-- the reader s of a job handed out x, and then stood as t
module _ {job : List ℕ} {s t : Reader} {x : Bor (List ℕ)} (same : s.job.now ≡ job) (h : Hands s (Some x) t) where
  pub here : (s.place < records job) × (x.now ≡ record_at job s.place)
  here = handed_some job x.now s.place (rw same at h.value)

  pub step : t.place ≡ s.place + 1
  step = let w : s.place < records s.job.now = rw same here.0 in let p = h.place in grind (arith, nat_tests)

  pub byte_here : (k : ℕ) → k < 8 → get_or x.now k 0 ≡ byte job s.place k
  byte_here k l = ap (λ (b : List ℕ). get_or b k 0) here.1 ∙ byte_at job s.place k l

  -- the records before it fit: either it fits too, or it is the first that does not
  pub fit_on : (fit : ℕ → Bool) → ((i : ℕ) → i < s.place → fit i ≡ true) → fit s.place ≡ true → (i : ℕ) → i < t.place → fit i ≡ true
  fit_on fit each fits i l = go (cases_eq i s.place)
    where
      go : (i ≡ s.place) ⊎ (i ≡ s.place → ⊥) → fit i ≡ true
      go (inl d) = ap fit d ∙ fits
      go (inr d) = let m = step in each i (omega arith)

  pub fit_no_more : (fit : ℕ → Bool) → ((i : ℕ) → i < s.place → fit i ≡ true) → fit s.place ≡ false → FirstUnfit fit (records job) (t.place - 1)
  fit_no_more fit each unfit =
      let b : s.place ≡ t.place - 1 = (let m = step in omega arith) in
      let w = here.0 in
      record { before = λ i l. each i (omega arith); bad = ap fit (sym b) ∙ unfit; there = inl (omega arith) }

  good_first : s.place ≡ 0 → opens (taken x.now) ≡ good job s.place
  good_first z =
      ap (λ (b : List ℕ). opens (taken b)) here.1 ∙ ap (λ (i : ℕ). opens (taken (record_at job i))) z
      ∙ ap (good job) (sym z)

  first_good : (n : Net) → s.place ≡ 0 → opens (taken x.now) ≡ true → n ≡ bare (get_or x.now 1 0) → Reached job t n
  first_good n z o e =
      let m = step in
      let b : t.place - 1 ≡ 0 = omega arith in
      record {
        same = h.job ∙ same;
        past = omega arith;
        each = fit_on (good job) (λ i l. absurd (omega arith)) (sym (good_first z) ∙ o);
        made = e ∙ ap bare (byte_here 1 (omega arith) ∙ ap (λ (i : ℕ). byte job i 1) z) ∙ front_none job ∙ ap (front job) (sym b);
      }

  first_bad : s.place ≡ 0 → opens (taken x.now) ≡ false → FirstBad job (t.place - 1)
  first_bad z o = fit_no_more (good job) (λ i l. absurd (omega arith)) (sym (good_first z) ∙ o)

-- the reader s, which had reached the net n of a job, handed out x, and then stood as t
module _ {job : List ℕ} {s t : Reader} {x : Bor (List ℕ)} {n : Net} (at : Reached job s n) (h : Hands s (Some x) t) where
  good_next : joins n.size (taken x.now) ≡ good job s.place
  good_next =
      ap (λ (m : Net). joins m.size (taken x.now)) at.made ∙ ap (λ (b : List ℕ). joins (count_in job) (taken b)) (here at.same h).1
      ∙ sym (good_link job s.place at.past)

  pub next_good : (m : Net) → joins n.size (taken x.now) ≡ true → m ≡ linked_up n (get_or x.now 1 0) (get_or x.now 2 0) → Reached job t m
  next_good m j e =
      let v = step at.same h in
      let a = at.past in
      let o : t.place - 1 ≡ suc (s.place - 1) = omega arith in
      let u : s.place ≡ suc (s.place - 1) = omega arith in
      let b = λ (k : ℕ) (l : k < 8). byte_here at.same h k l ∙ ap (λ (i : ℕ). byte job i k) u in
      record {
        same = h.job ∙ at.same;
        past = omega arith;
        each = fit_on at.same h (good job) at.each (sym good_next ∙ j);
        made = e
            ∙ ap₂ (λ (y z : ℕ). linked_up n y z) (b 1 (omega arith)) (b 2 (omega arith))
            ∙ ap (λ (w : Net). linked_up w (byte job (suc (s.place - 1)) 1) (byte job (suc (s.place - 1)) 2)) at.made
            ∙ front_more job (s.place - 1) ∙ ap (front job) (sym o);
      }

  pub next_bad : joins n.size (taken x.now) ≡ false → FirstBad job (t.place - 1)
  next_bad j = fit_no_more at.same h (good job) at.each (sym good_next ∙ j)

-- a job without a record, where the first record is to be N
pub no_record : {job : List ℕ} {s t : Reader} (fit : ℕ → Bool) → fit 0 ≡ opens (taken (record_at job 0)) → s.job.now ≡ job → s.place ≡ 0 → Hands s None t → FirstUnfit fit (records job) (t.place - 1)
no_record {job} {s} {t} fit first same z h =
    let n = none in
    let r = stays in
    record {
      before = λ i l. absurd (omega arith);
      bad = ap fit stays ∙ first ∙ short;
      there = inr (stays, omega arith);
    }
  where
    none : records job ≤ s.place
    none = handed_none job s.place (rw same at h.value)

    stays : t.place - 1 ≡ 0
    stays = let n : records s.job.now ≤ s.place = rw same none in let p = h.place in grind (arith, nat_tests)

    few : length (record_at job 0) ≡ 8 → ⊥
    few d = let n = none in let l = length-take 8 (drop 0 job) in omega arith

    short : opens (taken (record_at job 0)) ≡ false
    short = rw (ne_eqb (length (record_at job 0)) 8 few)

-- the first answer r of a reader's `next`, and the map o that its record opens, if there is one and it is N
abbrev pub OpenedBy : Option (Bor (List ℕ)) → Option Map → Type 0
OpenedBy r o = MatchOption r (o ≡ None) (λ x. MatchOption o (opens (taken x.now) ≡ false) (λ m. (opens (taken x.now) ≡ true) × (net m ≡ bare (get_or x.now 1 0))))

module _ {job : List ℕ} {s t : Reader} (same : s.job.now ≡ job) (start : s.place ≡ 0) where
  pub opening : (r : Option (Bor (List ℕ))) (m : Map) → Hands s r t → OpenedBy r (Some m) → Reached job t (net m)
  opening None m h o = absurd (cc)
  opening (Some x) m h o = first_good same h (net m) start o.0 o.1

  pub unopened : (r : Option (Bor (List ℕ))) → Hands s r t → OpenedBy r None → FirstBad job (t.place - 1)
  unopened None h o = no_record (good job) refl same start h
  unopened (Some x) h o = first_bad same h start o

-- at the last record

pub at_end : {job : List ℕ} {s t : Reader} → s.job.now ≡ job → Hands s None t → s.place ≡ records job
at_end {job} {s} same h =
    let a : s.place ≤ records job = rw (sym same) s.inside in
    let b : records job ≤ s.place = handed_none job s.place (rw same at h.value) in
    omega arith

pub all_good : {job : List ℕ} {s t : Reader} {n : Net} → Reached job s n → Hands s None t → AllGood job × (n ≡ described job)
all_good {job} {s} at h =
    let e : s.place ≡ records job = at_end at.same h in
    let a = at.past in
    (record { some = omega arith; each = λ i l. at.each i (omega arith) }, at.made ∙ ap (λ (k : ℕ). front job (k - 1)) e)

-- the index of a refusal is that of a record

pub unfit_index : (fit : ℕ → Bool) (job : List ℕ) (e : Refusal) → RefusedFor fit job e → (i : ℕ) → (entry e).index ≡ Some i → i < 10000
unfit_index fit job (Record k) r i q = let e : k ≡ i = cc in let l = length_ok (length job) r.0 in few r.1.there
  where
    few : (k < records job) ⊎ ((k ≡ 0) × (records job ≡ 0)) → i < 10000
    few (inl h) = let e : k ≡ i = cc in let l = length_ok (length job) r.0 in omega arith
    few (inr h) = let e : k ≡ i = cc in let z = h.0 in omega arith
unfit_index fit job e r i q = absurd (cc)

pub refused_index : (job : List ℕ) (e : Refusal) → Refused job e → (i : ℕ) → (entry e).index ≡ Some i → i < 10000
refused_index job e r i q = unfit_index (good job) job e r i q
