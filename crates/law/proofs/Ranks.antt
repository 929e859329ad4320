-- The order of deciding: RAND's slots for it, and a place in it for each decided node.
use Rattle.std.proofs.Common.{◌≡◌, ℕ, zero, suc, ◌+◌, ◌<◌, Bool, true, false, cond, not, eqb, ◌⊎◌, List, [], ◌∷◌, ◌++◌, length, get_or, Ok, sym, refl, ap, ◌∙◌, ap₂, inl, inr, ⊎_elim, arith}
use Rattle.std.proofs.lemmas.List.{get_or_append_left, get_or_push, length_push}
use Rattle.std.proofs.lemmas.Bool.{cases_eq, cases_lt, eq-eqb, ne_eqb}
use Rattle.marks.specs.Below.{sum_below, count_below}
use Rattle.marks.proofs.Below.{count_like, max_like}
use Rattle.map.specs.View.{nodes, contend}
use Rattle.map.specs.declared.Map.{Map}
use Rattle.map.proofs.Contends.{contend_mutual, contend_apart}
use Rattle.schedule.specs.Rand.{rand, Fine, Named, IsRand}
use Rattle.schedule.specs.Order.{entries}
use Rattle.schedule.specs.Sharing.{Checked}
use Rattle.schedule.specs.declared.checking.Verdict.TheVariants.{Accepted}
use Rattle.schedule.proofs.Slots.{least_like}
use Rattle.schedule.proofs.Rand.{rand_push_same, rand_push_other, rand_like, rand_low}
use Rattle.schedule.proofs.Accept.{rand_accepted, largest_is}
use Rattle.rig.specs.Calm.{at}
use Rattle.rig.specs.Board.{Board, each, decided_count}
use Rattle.law.specs.Law.{Tells, SlotLaw, frame}
use Rattle.law.proofs.Boards.{Same, Settles, count_same}

-- a row of none, and of one

pub each_none : {A : Type 0} (p : ℕ → Bool) (f : ℕ → A) (n : ℕ) → ((k : ℕ) → k < n → p k ≡ false) → each p f n ≡ []
unfolding each
each_none p f zero h = refl
each_none {A} p f (suc n) h = ap₂ (λ (xs : List A) (v : Bool). xs ++ cond v (f n ∷ []) []) (each_none p f n (λ k l. h k (omega arith))) (h n (omega arith))

pub each_one : {A : Type 0} (p : ℕ → Bool) (f : ℕ → A) (n k : ℕ) → k < n → p k ≡ true → ((i : ℕ) → (i ≡ k → ⊥) → p i ≡ false) → each p f n ≡ f k ∷ []
unfolding each
each_one p f zero k l t h = absurd (omega arith)
each_one {A} p f (suc n) k l t h = go (λ g. each_one p f n k g t h) (cases_eq n k)
  where
    go : (k < n → each p f n ≡ f k ∷ []) → (n ≡ k) ⊎ (n ≡ k → ⊥) → each p f n ++ cond (p n) (f n ∷ []) [] ≡ f k ∷ []
    go ih (inl e) =
        ap₂ (λ (xs : List A) (v : Bool). xs ++ cond v (f n ∷ []) []) (each_none p f n (λ i g. h i (λ z. omega arith))) (ap p e ∙ t)
        ∙ ap (λ (i : ℕ). f i ∷ []) e
    go ih (inr d) = ap₂ (λ (xs : List A) (v : Bool). xs ++ cond v (f n ∷ []) []) (ih (omega arith)) (h n d)

-- one more passes

count_one_more : (p q : ℕ → Bool) (n k : ℕ) → k < n → p k ≡ false → q k ≡ true → ((i : ℕ) → (i ≡ k → ⊥) → q i ≡ p i) → count_below q n ≡ suc (count_below p n)
unfolding sum_below
count_one_more p q zero k l e t f = absurd (omega arith)
count_one_more p q (suc n) k l e t f = go (λ g. count_one_more p q n k g e t f) (cases_eq n k)
  where
    go : (k < n → count_below q n ≡ suc (count_below p n)) → (n ≡ k) ⊎ (n ≡ k → ⊥) → count_below q n + cond (q n) 1 0 ≡ suc (count_below p n + cond (p n) 1 0)
    go ih (inl d) =
        let x : count_below q n ≡ count_below p n = count_like q p n (λ i g. f i (λ z. omega arith)) in
        let y : ◌≡◌ {A = ℕ} (cond (q n) 1 0) 1 = ap (λ (v : Bool). cond {A = ℕ} v 1 0) (ap q d ∙ t) in
        let z : ◌≡◌ {A = ℕ} (cond (p n) 1 0) 0 = ap (λ (v : Bool). cond {A = ℕ} v 1 0) (ap p d ∙ e) in
        omega arith
    go ih (inr d) =
        let x = ih (omega arith) in
        let y : ◌≡◌ {A = ℕ} (cond (q n) 1 0) (cond (p n) 1 0) = ap (λ (v : Bool). cond {A = ℕ} v 1 0) (f n d) in
        omega arith

module _ (m : Map) where
  pub record Ranks (order : List ℕ) (b : Board) : Type 0 where
    pub slots : (k : ℕ) → k < nodes m → (at b k).slot ≡ rand (contend m) (nodes m) order k
    pub named : (i : ℕ) → i < length order → (get_or order i 0 < nodes m) × (0 < (at b (get_or order i 0)).slot) × ((at b (get_or order i 0)).turn ≡ suc i)
    pub all : (k : ℕ) → k < nodes m → 0 < (at b k).slot → (i : ℕ) × (i < length order) × (get_or order i 0 ≡ k)
    pub none : (k : ℕ) → k < nodes m → (at b k).slot ≡ 0 → (at b k).turn ≡ 0
    pub count : decided_count (nodes m) b ≡ length order

  pub ranks_same : (order : List ℕ) (b b' : Board) → Same b b' → Ranks order b → Ranks order b'
  ranks_same order b b' s r = record {
    slots = λ k l. s.slot k ∙ r.slots k l;
    named = λ i l. let (x, y, z) = r.named i l in (x, (let e = s.slot (get_or order i 0) in omega arith), s.turn (get_or order i 0) ∙ z);
    all = λ k l h. r.all k l (let e = s.slot k in omega arith);
    none = λ k l e. s.turn k ∙ r.none k l (sym (s.slot k) ∙ e);
    count = count_same (nodes m) b b' s ∙ r.count;
  }

  pub ranks_more : (order : List ℕ) (b b' : Board) (k : ℕ) → Settles m b b' k → Ranks order b → Ranks (order ++ (k ∷ [])) b'
  ranks_more order b b' k s r = record {
    slots = λ i l. slot i l (cases_eq i k);
    named = λ i l. name i (let e = length_push order k in let z : (i < length order) ⊎ (i ≡ length order) = ⊎_elim inl (λ g. inr (omega arith)) (cases_lt i (length order)) in z);
    all = λ i l h. whole i l h (cases_eq i k);
    none = λ i l e. idle i l e (cases_eq i k);
    count = count_one_more (λ i. not (eqb (at b i).slot 0)) (λ i. not (eqb (at b' i).slot 0)) (nodes m) k s.inside (ap not (eq-eqb (at b k).slot 0 s.before)) (ap not (ne_eqb (at b' k).slot 0 (λ e. let p = s.after in omega arith))) (λ i d. ap (λ (v : ℕ). not (eqb v 0)) (s.others i d).0) ∙ ap suc r.count ∙ (let e = length_push order k in omega arith);
  }
    where
      slot : (i : ℕ) → i < nodes m → (i ≡ k) ⊎ (i ≡ k → ⊥) → (at b' i).slot ≡ rand (contend m) (nodes m) (order ++ (k ∷ [])) i
      slot i l (inl e) =
          ap (λ (j : ℕ). (at b' j).slot) e ∙ s.here ∙ least_like (contend m) (nodes m) (λ j. (at b j).slot) (rand (contend m) (nodes m) order) r.slots k
          ∙ sym (rand_push_same (contend m) (nodes m) order k) ∙ ap (rand (contend m) (nodes m) (order ++ (k ∷ []))) (sym e)
      slot i l (inr d) = (s.others i d).0 ∙ r.slots i l ∙ sym (rand_push_other (contend m) (nodes m) order k i d)

      idle : (i : ℕ) → i < nodes m → (at b' i).slot ≡ 0 → (i ≡ k) ⊎ (i ≡ k → ⊥) → (at b' i).turn ≡ 0
      idle i l e (inl d) = absurd (let z = ap (λ (j : ℕ). (at b' j).slot) (sym d) ∙ e in let p = s.after in omega arith)
      idle i l e (inr d) = (s.others i d).1 ∙ r.none i l (sym (s.others i d).0 ∙ e)

      name : (i : ℕ) → (i < length order) ⊎ (i ≡ length order) → (get_or (order ++ (k ∷ [])) i 0 < nodes m) × (0 < (at b' (get_or (order ++ (k ∷ [])) i 0)).slot) × ((at b' (get_or (order ++ (k ∷ [])) i 0)).turn ≡ suc i)
      name i (inl l) = rw (get_or_append_left order (k ∷ []) 0 i l)
          (let (x, y, z) = r.named i l in
          let off : get_or order i 0 ≡ k → ⊥ = λ e. (let u : (at b (get_or order i 0)).slot ≡ 0 = ap (λ (j : ℕ). (at b j).slot) e ∙ s.before in omega arith) in
          (x, (let e = (s.others (get_or order i 0) off).0 in omega arith), (s.others (get_or order i 0) off).1 ∙ z))
      name i (inr e) = rw (get_or_push order k 0 i (sym e))
          (s.inside, s.after, s.place ∙ ap suc (r.count ∙ sym e))

      whole : (i : ℕ) → i < nodes m → 0 < (at b' i).slot → (i ≡ k) ⊎ (i ≡ k → ⊥) → (j : ℕ) × (j < length (order ++ (k ∷ []))) × (get_or (order ++ (k ∷ [])) j 0 ≡ i)
      whole i l h (inl e) = (length order, (let q = length_push order k in omega arith), get_or_push order k 0 (length order) refl ∙ sym e)
      whole i l h (inr d) = let (j, g, e) = r.all i l (let e = (s.others i d).0 in omega arith) in
          (j, (let q = length_push order k in omega arith), get_or_append_left order (k ∷ []) 0 j g ∙ e)

  pub slot_law : (order : List ℕ) (b : Board) → Ranks order b → SlotLaw m order b
  slot_law order b r = record {
    fine = fine;
    decided = λ k l (i, g, e) z. let h = (r.named i g).1 in let y = ap (λ (j : ℕ). (at b j).slot) e ∙ z in omega arith;
    undecided = unslotted;
    turns = λ i l. (r.named i l).2;
    unturned = λ k l off. r.none k l (unslotted k l off);
    slots = r.slots;
    relation = is_rand;
    accepted = λ table t. accepted table t;
    low = λ i l. rand_low (contend m) (nodes m) order (λ k. (at b k).slot) is_rand i l;
  }
    where
      fine : Fine (nodes m) order
      fine i l = (
        (r.named i l).0,
        λ (j, g, e).
            let x = (r.named i l).2 in
            let y = (r.named j (omega arith)).2 in
            let z = ap (λ (k : ℕ). (at b k).turn) e in
            omega arith,
      )

      unslotted : (k : ℕ) → k < nodes m → (Named order k → ⊥) → (at b k).slot ≡ 0
      unslotted k l off = ⊎_elim (λ e. e) (λ d. absurd (off (r.all k l (omega arith)))) (cases_eq (at b k).slot 0)

      is_rand : IsRand (contend m) (nodes m) order (λ k. (at b k).slot)
      is_rand = rand_like (contend m) (nodes m) order (λ k. (at b k).slot) fine r.slots

      accepted : (table : List ℕ) → Tells m b table → Checked (contend m) (nodes m) table (Ok (Accepted (frame m b)))
      accepted table t =
          let (v, c) = rand_accepted (contend m) (nodes m) (contend_mutual m) (contend_apart m) order table t.long (rand_like (contend m) (nodes m) order (entries table) fine (λ k l. t.each k l ∙ r.slots k l)) in
          rw (largest_is (nodes m) table v c.1.1 ∙ max_like (entries table) (λ k. (at b k).slot) (nodes m) t.each) at c
