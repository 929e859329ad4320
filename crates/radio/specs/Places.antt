-- Messages in an array: entering, looking at and removing one; and that no message is made up, nor by the coin radio.
use Rattle.std.specs.Prelude.{◌≡◌, ℕ, zero, suc, ◌+◌, ◌-◌, ◌<◌, ◌≤◌, Bool, true, false, cond, ◌⊎◌, List, [], ◌∷◌, ◌++◌, length, get_or, take, Some, None, ◌≢◌, ◌==◌, nat_lt, slice_index_or, slice_set, refl}
use Rattle.std.proofs.Common.{sym, ap, ap₂, ◌∙◌, inl, inr, ⊎_elim, arith, length-set, get_or-take, get_or-set_same, get_or-set_other}
use mathlib.Core.List.Memᴰ
use mathlib.Core.List.{append-nil, Memᴰ}
use Rattle.std.specs.List.{remove, slice_get}
use Rattle.std.proofs.lemmas.List.Edits.{length-remove, get_or-remove_below, get_or-remove_above}
use Rattle.std.proofs.lemmas.List.{take_all, drop_all, take_more_set, length-take-le, ext_get_or}
use Rattle.std.proofs.lemmas.Option.{slice_get-get_or, slice_get_past}
use Rattle.std.proofs.lemmas.Bool.{lt-ltb, le-ltb, cond-true, cond-false, cases_lt, cases_eq}
use Rattle.marks.specs.Sets.{none}
use Rattle.radio.specs.declared.message.Message.{Message}
use Rattle.radio.specs.Ways.{In}
use Rattle.radio.specs.Waiting.{entered}
use Rattle.radio.specs.Coin.{CoinState, coin_put, coin_take, loses, stays, stepped, place}

-- What is said up to `moved_all` is said of a list of 256 places. The radios' places are those of `Bounded`,
-- whose contracts say it of what they hold.

-- what an array is filled with
abbrev pub blank : Message
blank = record { kind = 0; sender = 0; receiver = 0; round = 0; slot = 0; slots = none }

module _ (xs : List Message) (full : length xs ≡ 256) where
  pub enter_room : (n : ℕ) (m : Message) → n < 256 → take (n + 1) (slice_set xs n m) ≡ entered (take n xs) m
  enter_room n m h =
      let len : length (take n xs) ≡ n = length-take-le n xs (omega arith) in
      take_more_set xs n m (omega arith) ∙ sym (cond-true (nat_lt (length (take n xs)) 256) (take n xs ++ (m ∷ [])) (take n xs) (lt-ltb (length (take n xs)) 256 (omega arith)))

  pub enter_full : (n : ℕ) (m : Message) → n ≤ 256 → 256 ≤ n → take n xs ≡ entered (take n xs) m
  enter_full n m l h =
      let len : length (take n xs) ≡ n = length-take-le n xs (omega arith) in
      sym (cond-false (nat_lt (length (take n xs)) 256) (take n xs ++ (m ∷ [])) (take n xs) (le-ltb (length (take n xs)) 256 (omega arith)))

  pub at_there : (n i : ℕ) → n ≤ 256 → i < n → Some (slice_index_or xs i blank) ≡ slice_get (take n xs) i
  at_there n i l h =
      let len : length (take n xs) ≡ n = length-take-le n xs (omega arith) in
      ap (λ (m : Message). Some m) (sym (get_or-take n xs i blank h)) ∙ sym (slice_get-get_or (take n xs) i blank (omega arith))

  pub at_past : (n i : ℕ) → n ≤ 256 → n ≤ i → None ≡ slice_get (take n xs) i
  at_past n i l h =
      let len : length (take n xs) ≡ n = length-take-le n xs (omega arith) in
      sym (slice_get_past (take n xs) i (omega arith))

pub removed_past : (ms : List Message) (i : ℕ) → length ms ≤ i → ms ≡ remove ms i
removed_past ms i h = sym (ap₂ (λ (x y : List Message). x ++ y) (take_all i ms h) (drop_all (suc i) ms (omega arith)) ∙ append-nil ms)

-- the messages after a place, each moved down by one

-- from xs to ys, the places from i to k are done, and those from k on are not
pub record Moved (xs : List Message) (i : ℕ) (ys : List Message) (k : ℕ) : Type 0 where
  pub long : length ys ≡ 256
  pub done : (j : ℕ) → j < k → slice_index_or ys j blank ≡ slice_index_or (remove xs i) j blank
  pub left : (j : ℕ) → k ≤ j → slice_index_or ys j blank ≡ slice_index_or xs j blank

module _ (xs : List Message) (i : ℕ) (full : length xs ≡ 256) where
  pub moved_none : i < 256 → Moved xs i xs i
  moved_none h = record { long = full; done = λ j l. sym (get_or-remove_below xs i blank j l (omega arith)); left = λ j l. refl }

  pub moved_more : (ys : List Message) (k : ℕ) → i ≤ k → k + 1 < 256 → Moved xs i ys k → Moved xs i (slice_set ys k (slice_index_or ys (k + 1) blank)) (k + 1)
  moved_more ys k h l m = record {
    long = simp length-set m.long;
    done = λ j q. go j q (cases_eq j k);
    left = λ j q. get_or-set_other ys k j (slice_index_or ys (k + 1) blank) blank (λ e. omega arith) ∙ m.left j (omega arith);
  }
    where
      go : (j : ℕ) → j < k + 1 → (j ≡ k) ⊎ (j ≢ k) → slice_index_or (slice_set ys k (slice_index_or ys (k + 1) blank)) j blank ≡ slice_index_or (remove xs i) j blank
      go j q (inl e) =
          let w = m.long in
          ap (λ (x : ℕ). get_or (slice_set ys k (slice_index_or ys (k + 1) blank)) x blank) e ∙ get_or-set_same ys k (slice_index_or ys (k + 1) blank) blank (omega arith)
          ∙ m.left (k + 1) (omega arith) ∙ sym (get_or-remove_above xs i blank k h (omega arith)) ∙ ap (λ (x : ℕ). get_or (remove xs i) x blank) (sym e)
      go j q (inr d) = get_or-set_other ys k j (slice_index_or ys (k + 1) blank) blank d ∙ m.done j (omega arith)

  pub moved_all : (ys : List Message) (n : ℕ) → i < n → n ≤ 256 → Moved xs i ys (n - 1) → take (n - 1) ys ≡ remove (take n xs) i
  moved_all ys n h l m =
      let w = m.long in
      let len : length (take n xs) ≡ n = length-take-le n xs (omega arith) in
      let less = length-remove (take n xs) i (omega arith) in
      let short : length (take (n - 1) ys) ≡ n - 1 = length-take-le (n - 1) ys (omega arith) in
      ext_get_or blank (take (n - 1) ys) (remove (take n xs) i) (omega arith) (λ j q. at j (omega arith) (cases_lt j i))
    where
      at : (j : ℕ) → j < n - 1 → (j < i) ⊎ (i ≤ j) → slice_index_or (take (n - 1) ys) j blank ≡ slice_index_or (remove (take n xs) i) j blank
      at j q (inl p) =
          let len : length (take n xs) ≡ n = length-take-le n xs (omega arith) in
          get_or-take (n - 1) ys j blank q ∙ m.done j q ∙ get_or-remove_below xs i blank j p (omega arith)
          ∙ sym (get_or-remove_below (take n xs) i blank j p (omega arith) ∙ get_or-take n xs j blank (omega arith))
      at j q (inr p) =
          let len : length (take n xs) ≡ n = length-take-le n xs (omega arith) in
          get_or-take (n - 1) ys j blank q ∙ m.done j q ∙ get_or-remove_above xs i blank j p (omega arith)
          ∙ sym (get_or-remove_above (take n xs) i blank j p (omega arith) ∙ get_or-take n xs (j + 1) blank (omega arith))

-- no message is made up

pub entered_in : (ms : List Message) (m x : Message) → In x (entered ms m) → In x ms ⊎ (x ≡ m)
entered_in ms m x h = go (nat_lt (length ms) 256) h
  where
    go : (b : Bool) → In x (cond b (ms ++ (m ∷ [])) ms) → In x ms ⊎ (x ≡ m)
    go true i = ⊎_elim inl (λ j. inr (Memᴰ.eq_of_singleton j)) (Memᴰ.append_cases ms i)
    go false i = inl i

pub removed_in : (ms : List Message) (i : ℕ) (x : Message) → In x (remove ms i) → In x ms
removed_in [] zero x h = h
removed_in [] (suc i) x h = h
removed_in (m ∷ ms) zero x h = Memᴰ.tail h
removed_in (m ∷ ms) (suc i) x h = go (removed_in ms i x) (Memᴰ.cases_cons h)
  where
    go : (In x (remove ms i) → In x ms) → (x ≡ m) ⊎ In x (remove ms i) → In x (m ∷ ms)
    go ih (inl e) = Memᴰ.head e
    go ih (inr j) = Memᴰ.tail (ih j)

pub nth_in : (ms : List Message) (i : ℕ) (x : Message) → slice_get ms i ≡ Some x → In x ms
nth_in [] zero x e = absurd (let z : ◌≡◌ {A = ℕ} 0 1 = cc in omega arith)
nth_in [] (suc i) x e = absurd (let z : ◌≡◌ {A = ℕ} 0 1 = cc in omega arith)
nth_in (m ∷ ms) zero x e = Memᴰ.head (let z : x ≡ m = cc in z)
nth_in (m ∷ ms) (suc i) x e = Memᴰ.tail (nth_in ms i x e)

-- the coin radio

pub coin_put_air : (s : CoinState) (m x : Message) → In x (coin_put s m).waits → In x s.waits ⊎ (x ≡ m)
coin_put_air s m x h = go (loses (stepped s.value)) h
  where
    go : (b : Bool) → In x (cond b s.waits (entered s.waits m)) → In x s.waits ⊎ (x ≡ m)
    go true i = inl i
    go false i = entered_in s.waits m x i

pub coin_take_air : (s : CoinState) (x : Message) → In x (coin_take s).waits → In x s.waits
coin_take_air s x h = go (length s.waits == 0) h
  where
    left : (b : Bool) → In x (cond b s.waits (remove s.waits (place s))) → In x s.waits
    left true i = i
    left false i = removed_in s.waits (place s) x i

    after : CoinState
    after = record { value = stepped s.value; waits = cond (stays (stepped s.value)) s.waits (remove s.waits (place s)) }

    go : (b : Bool) → In x (cond b s after).waits → In x s.waits
    go true i = i
    go false i = left (stays (stepped s.value)) i
