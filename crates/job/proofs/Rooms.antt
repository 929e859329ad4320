-- Lines of a listing, one after another; and a listing has space in a text.
use Rattle.std.proofs.Common.{◌≡◌, ℕ, ◌+◌, ◌^◌, ◌<◌, ◌≤◌, ltb, List, [], ◌∷◌, ◌++◌, length, Ok, Err, codes, decimal, ◌∙◌, arith, length-append}
use Rattle.std.proofs.lemmas.Fmt.{length-decimal-le}
use Rattle.std.proofs.lemmas.Bool.{lt-ltb, cond-true}
use Rattle.marks.proofs.Below.{max_le}
use Rattle.refusal.specs.declared.Refusal.TheVariants.{Node as NoNode}
use Rattle.map.specs.View.{nodes}
use Rattle.map.specs.declared.Map.{Map}
use Rattle.text.specs.Written.{spaced, line_end, row_line}
use Rattle.text.proofs.Lines.{lines_short}
use Rattle.rig.specs.declared.Rig.{Rig}
use Rattle.rig.specs.declared.node.Node.{Node}
use Rattle.rig.specs.Board.{Board}
use Rattle.rig.specs.Calm.{at}
use Rattle.rig.specs.Questions.{told}
use Rattle.law.specs.Law.{frame}
use Rattle.job.specs.Play.{Stand}
use Rattle.job.specs.Listing.{columns, rows, listing}

-- what is told of a node
pub told_ok : (rig : Rig) (k : ℕ) (f : Node → List ℕ) → k < nodes rig.map → told rig k f ≡ Ok (f (at rig.nodes k))
told_ok rig k f l = cond-true (ltb k (nodes rig.map)) (Ok (f (at rig.nodes k))) (Err NoNode) (lt-ltb k (nodes rig.map) l)

pub told_is : (rig : Rig) (k : ℕ) (f : Node → List ℕ) (xs : List ℕ) → k < nodes rig.map → Ok xs ≡ told rig k f → xs ≡ f (at rig.nodes k)
told_is rig k f xs l e = let d = e ∙ told_ok rig k f l in cc

-- how long the lines are

-- a number of at most d digits after a space
spaced_one : (d n : ℕ) (ns : List ℕ) → 0 < d → 10 ^ d ≤ 2 ^ 64 → n < 10 ^ d → length (spaced (n ∷ ns)) ≤ d + 1 + length (spaced ns)
spaced_one d n ns p w l =
    let h = length-decimal-le d n p l (omega arith) in
    let e = length-append (32 ∷ decimal n) (spaced ns) in
    omega arith

-- numbers of nodes that a listing has space for
pub record Short (b : Board) (k : ℕ) : Type 0 where
  pub slot : (at b k).slot ≤ 64
  pub turn : (at b k).turn ≤ 64
  pub round : (at b k).round ≤ 65535

row_short : (b : Board) (k : ℕ) → k < 64 → Short b k → length (row_line (columns k (at b k))) ≤ 15
row_short b k l s =
    let slot = s.slot in
    let turn = s.turn in
    let round = s.round in
    let a = length-decimal-le 2 k (omega arith) (omega arith) (omega arith) in
    let x = spaced_one 2 (at b k).slot ((at b k).turn ∷ ((at b k).round ∷ [])) (omega arith) (omega arith) (omega arith) in
    let y = spaced_one 2 (at b k).turn ((at b k).round ∷ []) (omega arith) (omega arith) (omega arith) in
    let z = spaced_one 5 (at b k).round [] (omega arith) (omega arith) (omega arith) in
    let e = length-append (decimal k) (line_end ((at b k).slot ∷ ((at b k).turn ∷ ((at b k).round ∷ [])))) in
    let d = length-append (spaced ((at b k).slot ∷ ((at b k).turn ∷ ((at b k).round ∷ [])))) (10 ∷ []) in
    omega arith

pub listing_short : {S : Type 0} (m : Map) (t : Stand S) → ((k : ℕ) → k < nodes m → Short t.nodes k) → t.came + t.refused ≤ 16777216 → length (listing m t) ≤ 1024
listing_short m t h few =
    let most = m.most in
    let f : frame m t.nodes ≤ 64 = max_le (λ k. (at t.nodes k).slot) (nodes m) 64 (λ k l. (h k l).slot) in
    let r = lines_short (λ k. row_line (columns k (at t.nodes k))) 15 (nodes m) (λ k l. row_short t.nodes k (omega arith) (h k l)) in
    let x = spaced_one 8 t.came (t.refused ∷ (frame m t.nodes ∷ [])) (omega arith) (omega arith) (omega arith) in
    let y = spaced_one 8 t.refused (frame m t.nodes ∷ []) (omega arith) (omega arith) (omega arith) in
    let z = spaced_one 2 (frame m t.nodes) [] (omega arith) (omega arith) (omega arith) in
    let ends = line_end (t.came ∷ (t.refused ∷ (frame m t.nodes ∷ []))) in
    let a = length-append (rows t.nodes (nodes m)) (codes "end" ++ ends) in
    let b = length-append (codes "end") ends in
    let c = length-append (spaced (t.came ∷ (t.refused ∷ (frame m t.nodes ∷ [])))) (10 ∷ []) in
    omega arith
