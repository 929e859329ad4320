-- Rows of marks: without a link, and with one link more.
use Rattle.std.proofs.Common.{◌≡◌, ℕ, zero, suc, ◌<◌, Bool, true, false, ◌&&◌, ◌||◌, eqb, ◌≢◌, ◌⊎◌, List, length, set, replicate, sym, refl, ap, ◌∙◌, subst, ap₂, inl, inr, length-set, get_or-set_other, get_or-set_same}
use mathlib.Core.Path.{fun_ext}
use Rattle.std.proofs.Math.Bool.{and_comm, or_comm}
use Rattle.std.proofs.lemmas.Bool.{both_ways, eqb-true, eq-eqb, ne_eqb, cases_eq, cases_Bool, or_cases, or_left, and_parts}
use Rattle.marks.specs.View.{marked}
use Rattle.marks.specs.Sets.{none as no-marks}
use Rattle.marks.specs.declared.Marks.{Marks}
use Rattle.marks.proofs.Sets.{marked-none, or_none}
use Rattle.map.specs.Rows.{has, Mutual, Apart, Within}
use Rattle.map.specs.View.{Net}
use Rattle.map.specs.Calls.{ends, bare, linked_up}

pub no_links : (n : ℕ) (m : Marks) → ((j : ℕ) → marked m j ≡ false) → (a b : ℕ) → has (replicate n m) a b ≡ false
no_links zero m f zero b = marked-none b
no_links zero m f (suc a) b = marked-none b
no_links (suc n) m f zero b = f b
no_links (suc n) m f (suc a) b = no_links n m f a b

-- rows without a link are lawful
module _ (rows : List Marks) (none : (a b : ℕ) → has rows a b ≡ false) where
  pub bare_mutual : Mutual rows
  bare_mutual a b = none a b ∙ sym (none b a)

  pub bare_apart : Apart rows
  bare_apart a = none a a

  pub bare_within : (n : ℕ) → Within n rows
  bare_within n a b t = absurd (both_ways (has rows a b) (none a b) t)

pub bare_net : (n : ℕ) (lk : ℕ → ℕ → Bool) → ((a b : ℕ) → lk a b ≡ false) → ◌≡◌ {A = Net} (record { size = n; links = lk }) (bare n)
bare_net n lk none = ap (λ (f : ℕ → ℕ → Bool). record { size = n; links = f }) (fun_ext (λ a. fun_ext (λ b. none a b)))

-- the rows a and b changed

ends_swap : (p q r s : Bool) → ((p && q) || (r && s)) ≡ ((s && r) || (q && p))
ends_swap p q r s = ap₂ (λ (x y : Bool). x || y) (and_comm p q) (and_comm r s) ∙ or_comm (q && p) (s && r)

-- a pair whose first end is b, is a, or is neither
at_b : (h p q r s : Bool) → p ≡ false → r ≡ true → (h || s) ≡ (h || ((p && q) || (r && s)))
at_b h p q r s e f = ap₂ (λ (p r : Bool). h || ((p && q) || (r && s))) (sym e) (sym f)

at_a : (h p q r s : Bool) → p ≡ true → r ≡ false → (h || q) ≡ (h || ((p && q) || (r && s)))
at_a h p q r s e f =
    ap (λ (x : Bool). h || x) (or_none q refl) ∙ ap₂ (λ (p r : Bool). h || ((p && q) || (r && s))) (sym e) (sym f)

at_none : (h p q r s : Bool) → p ≡ false → r ≡ false → h ≡ (h || ((p && q) || (r && s)))
at_none h p q r s e f = or_none h refl ∙ ap₂ (λ (p r : Bool). h || ((p && q) || (r && s))) (sym e) (sym f)

never : (p q : Bool) → (p ≡ true → q ≡ true → ⊥) → ((p && q) || (q && p)) ≡ false
never true true f = absurd (f refl refl)
never true false f = refl
never false true f = refl
never false false f = refl

module _ (rows : List Marks) (a b : ℕ) (ra rb : Marks) (la : a < length rows) (lb : b < length rows) (ne : a ≢ b)
    (ea : (j : ℕ) → marked ra j ≡ (has rows a j || eqb j b))
    (eb : (j : ℕ) → marked rb j ≡ (has (set rows a ra) b j || eqb j a)) where
  abbrev after : List Marks
  after = set (set rows a ra) b rb

  pub one_link : (x y : ℕ) → has after x y ≡ (has rows x y || ends a b x y)
  one_link x y = go (cases_eq x b) (cases_eq x a)
    where
      go : (x ≡ b) ⊎ (x ≡ b → ⊥) → (x ≡ a) ⊎ (x ≡ a → ⊥) → has after x y ≡ (has rows x y || ends a b x y)
      go (inl e) (inl f) = absurd (ne (sym f ∙ e))
      go (inl e) (inr n) =
          let l : b < length (set rows a ra) = simp length-set lb in
          let d : b ≢ a = λ z. ne (sym z) in
          ap (λ (k : ℕ). has after k y) e
          ∙ ap (λ (m : Marks). marked m y) (get_or-set_same (set rows a ra) b rb no-marks l)
          ∙ eb y
          ∙ ap (λ (m : Marks). marked m y || eqb y a) (get_or-set_other rows a b ra no-marks d)
          ∙ ap (λ (k : ℕ). has rows k y || eqb y a) (sym e)
          ∙ at_b (has rows x y) (eqb x a) (eqb y b) (eqb x b) (eqb y a) (ne_eqb x a n) (eq-eqb x b e)
      go (inr n) (inl e) =
          ap (λ (m : Marks). marked m y) (get_or-set_other (set rows a ra) b x rb no-marks n)
          ∙ ap (λ (k : ℕ). has (set rows a ra) k y) e
          ∙ ap (λ (m : Marks). marked m y) (get_or-set_same rows a ra no-marks la)
          ∙ ea y
          ∙ ap (λ (k : ℕ). has rows k y || eqb y b) (sym e)
          ∙ at_a (has rows x y) (eqb x a) (eqb y b) (eqb x b) (eqb y a) (eq-eqb x a e) (ne_eqb x b n)
      go (inr n) (inr m) =
          ap (λ (m : Marks). marked m y) (get_or-set_other (set rows a ra) b x rb no-marks n ∙ get_or-set_other rows a x ra no-marks m)
          ∙ at_none (has rows x y) (eqb x a) (eqb y b) (eqb x b) (eqb y a) (ne_eqb x a m) (ne_eqb x b n)

  pub one_link_more : (n : ℕ) → ◌≡◌ {A = Net} (record { size = n; links = has after }) (linked_up (record { size = n; links = has rows }) a b)
  one_link_more n = ap (λ (f : ℕ → ℕ → Bool). record { size = n; links = f }) (fun_ext (λ x. fun_ext (λ y. one_link x y)))

  pub still_mutual : Mutual rows → Mutual after
  still_mutual h x y =
      one_link x y ∙ ap₂ (λ (p q : Bool). p || q) (h x y) (ends_swap (eqb x a) (eqb y b) (eqb x b) (eqb y a)) ∙ sym (one_link y x)

  pub still_apart : Apart rows → Apart after
  still_apart h x =
      one_link x x ∙ ap (λ (p : Bool). p || ends a b x x) (h x) ∙ never (eqb x a) (eqb x b) (λ p q. ne (sym (eqb-true x a p) ∙ eqb-true x b q))

  pub still_within : (n : ℕ) → a < n → b < n → Within n rows → Within n after
  still_within n ha hb h x y t = go (or_cases (has rows x y) (ends a b x y) (sym (one_link x y) ∙ t))
    where
      at_end : (eqb x a && eqb y b ≡ true) ⊎ (eqb x b && eqb y a ≡ true) → x < n
      at_end (inl p) = subst (λ (k : ℕ). k < n) (sym (eqb-true x a (and_parts (eqb x a) (eqb y b) p).0)) ha
      at_end (inr p) = subst (λ (k : ℕ). k < n) (sym (eqb-true x b (and_parts (eqb x b) (eqb y a) p).0)) hb

      go : (has rows x y ≡ true) ⊎ (ends a b x y ≡ true) → x < n
      go (inl p) = h x y p
      go (inr p) = at_end (or_cases (eqb x a && eqb y b) (eqb x b && eqb y a) p)

-- a link that is there already adds nothing
pub known_link : (n : Net) (a b : ℕ) → ((x y : ℕ) → n.links x y ≡ n.links y x) → n.links a b ≡ true → linked_up n a b ≡ n
known_link n a b both t = ap (λ (f : ℕ → ℕ → Bool). record { size = n.size; links = f }) (fun_ext (λ x. fun_ext (λ y. go x y (cases_Bool (ends a b x y)))))
  where
    taken : (x y : ℕ) → (eqb x a && eqb y b ≡ true) ⊎ (eqb x b && eqb y a ≡ true) → n.links x y ≡ true
    taken x y (inl p) =
        let q = and_parts (eqb x a) (eqb y b) p in
        ap₂ n.links (eqb-true x a q.0) (eqb-true y b q.1) ∙ t
    taken x y (inr p) =
        let q = and_parts (eqb x b) (eqb y a) p in
        ap₂ n.links (eqb-true x b q.0) (eqb-true y a q.1) ∙ both b a ∙ t

    go : (x y : ℕ) → (ends a b x y ≡ true) ⊎ (ends a b x y ≡ false) → (n.links x y || ends a b x y) ≡ n.links x y
    go x y (inl e) =
        let k = taken x y (or_cases (eqb x a && eqb y b) (eqb x b && eqb y a) e) in
        or_left (n.links x y) (ends a b x y) k ∙ sym k
    go x y (inr e) = sym (or_none (n.links x y) e)
