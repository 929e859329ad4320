-- What a sure radio makes of its air: a message comes out of it, and messages go into it, each counted once.
use Rattle.std.proofs.Common.{◌≡◌, ◌+◌, ◌<◌, ◌≤◌, Bool, true, cond, ◌⊎◌, List, [], ◌∷◌, length, Some, refl, arith}
use Rattle.radio.specs.Ways.{Ways, AirRule, In, puts}
use Rattle.radio.specs.declared.message.Message.{Message}
use Rattle.radio.proofs.Puts.{puts_air}
use Rattle.drive.specs.Sure.{tally, Sure}

-- x comes out of xs, and ys are left
pub record Out (x : Message) (xs ys : List Message) : Type 0 where
  pub there : In x xs
  pub left : (y : Message) → In y ys → In y xs
  pub counts : (p : Message → Bool) → tally p xs ≡ cond (p x) 1 0 + tally p ys

-- the messages sent go into ys, and zs come of it
pub record Into (ys sent zs : List Message) : Type 0 where
  pub cases : (y : Message) → In y zs → In y ys ⊎ In y sent
  pub counts : (p : Message → Bool) → tally p zs ≡ tally p ys + tally p sent

pub length-tally : (xs : List Message) → length xs ≡ tally (λ _. true) xs
length-tally [] = refl
length-tally (x ∷ xs) = let e = length-tally xs in omega arith

module _ {S : Type 0} (w : Ways S) (rule : AirRule w) (sure : Sure w) where
  pub takes_out : (s : S) (x : Message) → w.taken s ≡ Some x → Out x (w.air s) (w.air (w.after_take s))
  takes_out s x e = record { there = rule.taken_air s x e; left = rule.take_air s; counts = sure.once s x e }

  -- one more waits after putting in
  one_longer : (s : S) (x : Message) → length (w.air s) < 256 → length (w.air (w.after_put s x)) ≡ 1 + length (w.air s)
  one_longer s x l =
      let e = sure.keeps s x l (λ _. true) in
      let a = length-tally (w.air s) in
      let b = length-tally (w.air (w.after_put s x)) in
      omega arith

  puts-tally : (p : Message → Bool) (s : S) (sent : List Message) → length (w.air s) + length sent ≤ 256 → tally p (w.air (puts w s sent)) ≡ tally p (w.air s) + tally p sent
  puts-tally p s [] l = omega arith
  puts-tally p s (x ∷ sent) l =
      let few : length (w.air s) < 256 = omega arith in
      let e = sure.keeps s x few p in
      let d = one_longer s x few in
      let ih = puts-tally p (w.after_put s x) sent (omega arith) in
      omega arith

  pub goes_into : (s : S) (sent : List Message) → length (w.air s) + length sent ≤ 256 → Into (w.air s) sent (w.air (puts w s sent))
  goes_into s sent l = record { cases = puts_air w rule s sent; counts = λ p. puts-tally p s sent l }
