-- What a draw comes to where it is won, and what a step makes of rig and radio.
use Rattle.std.proofs.Common.{◌≡◌, ℕ, ◌+◌, ◌<◌, true, false, ◌||◌, eqb, ltb, ◌≢◌, Ok, Result, sym, ap, ◌∙◌}
use Rattle.std.proofs.lemmas.Bool.{cond-true, cond-false, lt-ltb, eq-eqb, ne_eqb}
use Rattle.marks.specs.Below.{some_below}
use Rattle.refusal.specs.declared.Refusal.{Refusal}
use Rattle.map.specs.View.{nodes, linked}
use Rattle.radio.specs.Ways.{Ways, puts}
use Rattle.rig.specs.declared.Rig.{Rig}
use Rattle.rig.specs.declared.Lottery.{Lottery}
use Rattle.rig.specs.declared.Lottery.TheVariants.{Asked, Decided}
use Rattle.rig.specs.Calm.{at, is_request, is_grant}
use Rattle.rig.specs.Board.{Board, put}
use Rattle.rig.specs.Laws.{Lawful}
use Rattle.rig.specs.Made.{Made}
use Rattle.rig.specs.Steps.{After, asking, request, to_all, settled, settled_sent, wins, won, drawn}
use Rattle.rig.proofs.Keeps.{drawn_lawful}

-- what a draw comes to, as its contract says it
pub record Drawn {S : Type 0} (w : Ways S) (rig rig' : Rig) (s s' : S) (k v : ℕ) (r : Result Lottery Refusal) : Type 0 where
  pub made : Made w rig rig' s s' (drawn rig.map rig.nodes k v).board (drawn rig.map rig.nodes k v).sent
  pub value : r ≡ (drawn rig.map rig.nodes k v).answer
  pub lawful : Lawful rig.nodes rig'.nodes s s' k r

drawn_is : {S : Type 0} (w : Ways S) (rig rig' : Rig) (s s' : S) (k v : ℕ) (a : After Lottery) → drawn rig.map rig.nodes k v ≡ a
    → rig'.map ≡ rig.map → rig'.nodes ≡ a.board → s' ≡ puts w s a.sent → Drawn w rig rig' s s' k v a.answer
drawn_is w rig rig' s s' k v a e em en es =
    let nodes = en ∙ ap (λ (x : After Lottery). x.board) (sym e) in
    let radio = es ∙ ap (λ (x : After Lottery). puts w s x.sent) (sym e) in
    let value = ap (λ (x : After Lottery). x.answer) (sym e) in
    record {
      made = record { map = em; nodes = nodes; radio = radio };
      value = value;
      lawful = drawn_lawful w rig.map rig.nodes rig'.nodes s s' k v a.answer nodes radio value;
    }

-- node k draws, and wins
pub record Wins (rig : Rig) (k v : ℕ) : Type 0 where
  pub inside : k < nodes rig.map
  pub undecided : (at rig.nodes k).slot ≡ 0
  pub free : (is_request (at rig.nodes k).phase || is_grant (at rig.nodes k).phase) ≡ false
  pub room : (at rig.nodes k).round ≢ 65535
  pub wins : wins rig.map k v ≡ true

drawn_won : (rig : Rig) (k v : ℕ) → Wins rig k v → drawn rig.map rig.nodes k v ≡ won rig.map rig.nodes k
drawn_won rig k v h =
    let n = at rig.nodes k in
    cond-true (ltb k (nodes rig.map)) _ _ (lt-ltb k (nodes rig.map) h.inside)
    ∙ cond-true (eqb n.slot 0) _ _ (eq-eqb n.slot 0 h.undecided)
    ∙ cond-false (is_request n.phase || is_grant n.phase) _ _ h.free
    ∙ cond-false (eqb n.round 65535) _ _ (ne_eqb n.round 65535 h.room)
    ∙ cond-true (wins rig.map k v) _ _ h.wins

module _ {S : Type 0} (w : Ways S) (rig rig' : Rig) (s s' : S) (k v : ℕ) (h : Wins rig k v) where
  pub drawn_asks : some_below (linked rig.map k) (nodes rig.map) ≡ true
      → rig'.map ≡ rig.map → rig'.nodes ≡ put rig.nodes k (asking (at rig.nodes k))
      → s' ≡ puts w s (to_all rig.map k (request ((at rig.nodes k).round + 1) k))
      → Drawn w rig rig' s s' k v (Ok Asked)
  drawn_asks e em en es =
      drawn_is w rig rig' s s' k v _ (drawn_won rig k v h ∙ cond-true (some_below (linked rig.map k) (nodes rig.map)) _ _ e) em en es

  -- from the nodes c, in which it asks
  pub drawn_settles : (c : Board) → some_below (linked rig.map k) (nodes rig.map) ≡ false
      → rig'.map ≡ rig.map → rig'.nodes ≡ settled rig.map c k → s' ≡ puts w s (settled_sent rig.map c k)
      → c ≡ put rig.nodes k (asking (at rig.nodes k))
      → Drawn w rig rig' s s' k v (Ok Decided)
  drawn_settles c e em en es q =
      drawn_is w rig rig' s s' k v _ (drawn_won rig k v h ∙ cond-false (some_below (linked rig.map k) (nodes rig.map)) _ _ e) em
      (en ∙ ap (λ (b : Board). settled rig.map b k) q) (es ∙ ap (λ (b : Board). puts w s (settled_sent rig.map b k)) q)
