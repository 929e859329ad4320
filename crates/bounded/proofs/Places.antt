-- The first of the places, after a write to them; and how many items are held.
use Rattle.std.proofs.Common.{◌≡◌, ℕ, ◌+◌, ◌-◌, ◌<◌, ◌≤◌, List, [], ◌∷◌, ◌++◌, length, length-drop, suc, take, drop, min, sym, ap, ap₂, ◌∙◌, arith, length-take-le, length-take, length-append, nat_lt, ◌⊎◌, inl, inr}
use Rattle.std.specs.List.{remove, copy_within}
use Rattle.std.proofs.Math.Seq.{take-append-add}
use Rattle.std.proofs.lemmas.List.{take_all, take-append-le, take_min, take-take, drop-take}
use Rattle.std.proofs.lemmas.List.Edits.{take-paste}
use Rattle.std.proofs.lemmas.Slice.{take-put_mid}
use Rattle.std.proofs.lemmas.Bool.{cases_lt, lt-ltb, le-ltb, cond-true, cond-false}
use Rattle.bounded.specs.declared.Bounded.{Bounded}
use Rattle.bounded.specs.Held.{held, pushed}
use borrow.Rule.Slice.PartMut.{put_mid}

module _ {X : Type 0} (xs : List X) (n len : ℕ) (full : length xs ≡ n) (within : len ≤ n) where
  -- what fits of a list of items is written after the first len places
  pub extended : (items written : List X) (count k : ℕ) → count ≡ min (n - len) (length items) → count ≤ length items → written ≡ take count items
      → take (len + count) (put_mid len k xs written) ≡ take n (take len xs ++ items)
  extended items written count k least fits is =
      let front : length (take len xs) ≡ len = length-take-le len xs (omega arith) in
      let long : length written ≡ count = ap length is ∙ length-take-le count items fits in
      take-put_mid len k xs written (len + count) (omega arith) (omega arith)
      ∙ ap (λ (ys : List X). take len xs ++ ys) (is ∙ ap (λ (m : ℕ). take m items) least ∙ take_min (n - len) items)
      ∙ sym (take-append-add (take len xs) items (n - len))
      ∙ ap (λ (m : ℕ). take m (take len xs ++ items)) (let e : length (take len xs) + (n - len) ≡ n = omega arith in e)

  -- the places after one are moved down by one
  pub removed : (ys : List X) (place : ℕ) → place < len → ys ≡ copy_within xs (place + 1) len place → take (len - 1) ys ≡ remove (take len xs) place
  removed ys place lt moved =
      let m = len - (place + 1) in
      let there : len - 1 ≡ place + m = omega arith in
      let all : len ≡ (place + 1) + m = omega arith in
      ap₂ (λ (k : ℕ) (zs : List X). take k zs) there moved
      ∙ take-paste xs place (drop (place + 1) xs) m (omega arith) (simp length-drop (omega arith))
      ∙ ap₂ (λ (x y : List X). x ++ y) (sym (take-take place len xs (omega arith)))
      (sym (drop-take (place + 1) m xs) ∙ ap (λ (k : ℕ). drop (place + 1) (take k xs)) (sym all) ∙ ap (λ (k : ℕ). drop k (take len xs)) (let e : place + 1 ≡ suc place = omega arith in e))

module _ {T : Type 0} {n : ℕ} where
  -- no more items are held than there are places
  pub held_short : (b : Bounded T n) → length (held b) ≤ n
  held_short b = let w = b.within in let f = b.full in simp length-take (omega arith)

  -- an item that is lost where n are held: the list with the item, cut after n
  pub pushed_clip : (xs : List T) (x : T) → length xs ≤ n → pushed n xs x ≡ take n (xs ++ (x ∷ []))
  pushed_clip xs x h = go (cases_lt (length xs) n)
    where
      go : (length xs < n) ⊎ (n ≤ length xs) → pushed n xs x ≡ take n (xs ++ (x ∷ []))
      go (inl l) =
          cond-true (nat_lt (length xs) n) (xs ++ (x ∷ [])) xs (lt-ltb (length xs) n l)
          ∙ sym (take_all n (xs ++ (x ∷ [])) (simp length-append (omega arith)))
      go (inr l) =
          cond-false (nat_lt (length xs) n) (xs ++ (x ∷ [])) xs (le-ltb (length xs) n l)
          ∙ sym (take-append-le n xs (x ∷ []) l ∙ take_all n xs h)
