-- What a delivery makes of an episode; and two of the three about a neighbour: the request comes, the release comes.
use Rattle.std.proofs.Common.{◌≡◌, ℕ, suc, ◌+◌, ◌<◌, ◌≤◌, Bool, true, false, not, ◌||◌, eqb, ltb, ◌⊎◌, List, [], ◌∷◌, length, Some, Ok, Option, sym, refl, ap, ◌∙◌, subst, ap₂, inl, inr, arith}
use mathlib.Core.List.Memᴰ
use Rattle.std.proofs.lemmas.List.{length-set}
use Rattle.std.proofs.lemmas.Bool.{both_ways, cases_eq, and_from, or_from, eq-eqb, ne_eqb, le-ltb, cond_both, cond-true, cond-false}
use Rattle.marks.specs.View.{marked}
use Rattle.map.specs.View.{linked}
use Rattle.map.specs.declared.Map.{Map}
use Rattle.radio.specs.declared.kind.Kind.{Kind}
use Rattle.radio.specs.declared.kind.Kind.TheVariants.{Request as RequestKind, Release as ReleaseKind}
use Rattle.radio.specs.declared.message.Message.{Message}
use Rattle.rig.specs.declared.node.Node.{Node}
use Rattle.rig.specs.declared.node.Phase.{Phase}
use Rattle.rig.specs.declared.node.Phase.TheVariants.{Idle, Request, Grant, Release}
use Rattle.rig.specs.Calm.{at, is_request, is_grant}
use Rattle.rig.specs.Board.{Board, put}
use Rattle.rig.specs.Steps.{After, request, grant, release, serves, offered, bound, freed, hearing, foreign, received, on_request, granting, sends, hears}
use Rattle.rig.proofs.Calms.{at-put, at_other}
use Rattle.drive.proofs.Airs.{Out, Into}
use Rattle.drive.proofs.Alone.{Only, only_then}
use Rattle.drive.proofs.Episode.{work, given, Episode}
use Rattle.drive.proofs.Hits.{one_if, none_if, wait_is, cost_is}
use Rattle.drive.proofs.Moves.{apart, inside, Moved, moves, works}

freed_calm : (v : Node) → (is_request (freed v).phase ≡ false) × (is_grant (freed v).phase ≡ false)
freed_calm v = cond_both (eqb v.slot 0) Idle Release (λ p. (is_request p ≡ false) × (is_grant p ≡ false)) (λ _. (refl, refl)) (λ _. (refl, refl))

-- one node altered, with its slot and round as before
pub only_put : (a : ℕ) (b : Board) (k : ℕ) (v : Node) → k < length b → v.slot ≡ (at b k).slot → v.round ≡ (at b k).round → Only a b (put b k v)
only_put a b k v l es er = record {
  slots = λ i _. slot i (cases_eq i k);
  rounds = λ i _. round i (cases_eq i k);
  stays = λ h. subst (λ (x : ℕ). 0 < x) (sym (slot a (cases_eq a k))) h;
}
  where
    slot : (i : ℕ) → (i ≡ k) ⊎ (i ≡ k → ⊥) → (at (put b k v) i).slot ≡ (at b i).slot
    slot i (inl e) = ap (λ (j : ℕ). (at (put b k v) j).slot) e ∙ ap (λ (u : Node). u.slot) (at-put b k v l) ∙ es ∙ ap (λ (j : ℕ). (at b j).slot) (sym e)
    slot i (inr d) = ap (λ (u : Node). u.slot) (at_other b k i v d)

    round : (i : ℕ) → (i ≡ k) ⊎ (i ≡ k → ⊥) → (at (put b k v) i).round ≡ (at b i).round
    round i (inl e) = ap (λ (j : ℕ). (at (put b k v) j).round) e ∙ ap (λ (u : Node). u.round) (at-put b k v l) ∙ er ∙ ap (λ (j : ℕ). (at b j).round) (sym e)
    round i (inr d) = ap (λ (u : Node). u.round) (at_other b k i v d)

module _ (m : Map) (a r : ℕ) where
  -- what a delivery makes of an episode, with ys left in the air
  pub record Went (b : Board) (ys : List Message) (o : After (Option Kind)) : Type 0 where
    pub episode : (zs : List Message) → Into ys o.sent zs → Episode m a r (at o.board) zs
    pub less : work m a (at b) ≡ work m a (at o.board) + 1
    pub only : Only a b o.board
    pub few : length o.sent ≤ 64
    pub came : (kind : Kind) × (o.answer ≡ Ok (Some kind))

  module _ (b : Board) (long : length b ≡ 64) (k : ℕ) (link : linked m a k ≡ true) (xs ys : List Message) (ep : Episode m a r (at b) xs) where
    far : k ≡ a → ⊥
    far = apart m a k link

    in_k : k < length b
    in_k = let s = m.most in let l = inside m a k link in omega arith

    -- the request comes

    granted_at : (p : Phase) → is_grant p ≡ false → is_request p ≡ false → on_request m b (request r a k) p ≡ granting m b (request r a k)
    granted_at Idle g q = refl
    granted_at Request g q = absurd (both_ways true q refl)
    granted_at Grant g q = absurd (both_ways true g refl)
    granted_at Release g q = refl

    received-request : is_grant (at b k).phase ≡ false → received m b (request r a k) ≡ granting m b (request r a k)
    received-request g = cond-false (foreign m (request r a k)) _ _ (ap (λ (v : Bool). not v || false) link) ∙ granted_at (at b k).phase g (ep.others k far)

    module _ (q : (at b a).phase ≡ Request) (g : is_grant (at b k).phase ≡ false) (n : marked (at b a).granted k ≡ false) where
      abbrev asked_board : Board
      asked_board = put b k (bound (at b k) a r)

      asked_k : at asked_board k ≡ bound (at b k) a r
      asked_k = at-put b k (bound (at b k) a r) in_k

      asked_a : at asked_board a ≡ at b a
      asked_a = at_other b k a (bound (at b k) a r) (λ e. far (sym e))

      asked_q : (at asked_board a).phase ≡ Request
      asked_q = ap (λ (v : Node). v.phase) asked_a ∙ q

      asked_n : marked (at asked_board a).granted k ≡ false
      asked_n = ap (λ (v : Node). marked v.granted k) asked_a ∙ n

      asked_g : is_grant (at asked_board k).phase ≡ true
      asked_g = ap (λ (v : Node). is_grant v.phase) asked_k

      asked_moved : Moved m a r (at b) (at asked_board) k (grant (offered (at b k)) r k a ∷ [])
      asked_moved = record {
        phase = ap (λ (v : Node). v.phase) asked_a;
        round = ap (λ (v : Node). v.round) asked_a;
        slot = ap (λ (v : Node). v.slot) asked_a;
        same = λ i d _. at_other b k i (bound (at b k) a r) d;
        granted = λ i _ _. ap (λ (v : Node). marked v.granted i) asked_a;
        calm = ap (λ (v : Node). is_request v.phase) asked_k;
        lock = λ _. (ap (λ (v : Node). v.holder) asked_k, ap (λ (v : Node). v.term) asked_k);
        proper = λ h. absurd (both_ways (is_grant (at asked_board k).phase) h asked_g);
        words = λ y i. given k (offered (at b k)) link asked_q asked_g asked_n (Memᴰ.eq_of_singleton i);
        here = let o = one_if k k refl in let w = wait_is (at asked_board a) k (at asked_board k) true false true (ap is_request asked_q) asked_n asked_g in omega arith;
        there = λ i d. let o = none_if k i (λ e. d (sym e)) in omega arith;
        short = λ _. let (j, l, h) = ep.short q in (j, l, ap (λ (v : Node). marked v.granted j) asked_a ∙ h);
        marks = λ _ _. asked_g;
        less =
            let x = cost_is (at asked_board a) k (at asked_board k) true false true (ap is_request asked_q) asked_n asked_g in
            let y = cost_is (at b a) k (at b k) true false false (ap is_request q) n g in
            omega arith;
      }

      pub request_comes : Out (request r a k) xs ys → Went b ys (received m b (request r a k))
      request_comes out = subst (λ (o : After (Option Kind)). Went b ys o) (sym (received-request g)) (record {
        episode = moves m a r (at b) (at asked_board) k link (request r a k) xs ys _ out ep refl asked_moved;
        less = works m a r (at b) (at asked_board) k link (request r a k) xs ys _ out ep refl asked_moved;
        only = only_put a b k (bound (at b k) a r) in_k refl refl;
        few = omega arith;
        came = (RequestKind, refl);
      })

    -- the release comes

    module _ (t : ℕ) (few : t < 64) (q : is_request (at b a).phase ≡ false) (g : is_grant (at b k).phase ≡ true) where
      abbrev heard_board : Board
      heard_board = hears m b (release (suc t) r a k)

      abbrev told_board : Board
      told_board = put heard_board k (freed (at heard_board k))

      heard_long : k < length heard_board
      heard_long = let e = length-set b k (hearing (at b k) (suc t)) in let l = in_k in omega arith

      told_k : at told_board k ≡ freed (at heard_board k)
      told_k = at-put heard_board k (freed (at heard_board k)) heard_long

      told_i : (i : ℕ) → (i ≡ k → ⊥) → at told_board i ≡ at b i
      told_i i d = at_other heard_board k i (freed (at heard_board k)) d ∙ at_other b k i (hearing (at b k) (suc t)) d

      told_a : at told_board a ≡ at b a
      told_a = told_i a (λ e. far (sym e))

      told_q : is_request (at told_board a).phase ≡ false
      told_q = ap (λ (v : Node). is_request v.phase) told_a ∙ q

      told_g : is_grant (at told_board k).phase ≡ false
      told_g = ap (λ (v : Node). is_grant v.phase) told_k ∙ (freed_calm (at heard_board k)).1

      told_moved : Moved m a r (at b) (at told_board) k []
      told_moved = record {
        phase = ap (λ (v : Node). v.phase) told_a;
        round = ap (λ (v : Node). v.round) told_a;
        slot = ap (λ (v : Node). v.slot) told_a;
        same = λ i d _. told_i i d;
        granted = λ i _ _. ap (λ (v : Node). marked v.granted i) told_a;
        calm = ap (λ (v : Node). is_request v.phase) told_k ∙ (freed_calm (at heard_board k)).0;
        lock = λ h. absurd (both_ways (is_grant (at told_board k).phase) told_g h);
        proper = λ _. subst (λ (v : Node). v.phase ≡ (freed v).phase) (sym told_k) refl;
        words = λ y i. absurd (Memᴰ.not-nil i);
        here = sym (wait_is (at told_board a) k (at told_board k) false (marked (at told_board a).granted k) false told_q refl told_g);
        there = λ i d. refl;
        short = λ p. absurd (both_ways (is_request (at told_board a).phase) told_q (ap is_request p));
        marks = λ _ p. absurd (both_ways (is_request (at told_board a).phase) told_q (ap is_request p));
        less =
            let x = cost_is (at told_board a) k (at told_board k) false (marked (at told_board a).granted k) false told_q refl told_g in
            let y = cost_is (at b a) k (at b k) false (marked (at b a).granted k) true q refl g in
            omega arith;
      }

      frees_k : serves (at heard_board k) a r ≡ true
      frees_k = let (_, h, e) = ep.locks k g in
          subst (λ (v : Node). serves v a r ≡ true) (sym (at-put b k (hearing (at b k) (suc t)) in_k))
          (and_from (is_grant (at b k).phase) _ g (and_from (eqb (at b k).holder a) (eqb (at b k).term r) (eq-eqb (at b k).holder a h) (eq-eqb (at b k).term r e)))

      received-release : received m b (release (suc t) r a k) ≡ sends m told_board [] ReleaseKind
      received-release =
          cond-false (foreign m (release (suc t) r a k)) _ _ (ap₂ (λ (v w : Bool). not v || w) link (or_from (eqb (suc t) 0) (ltb 64 (suc t)) (ne_eqb (suc t) 0 (λ z. omega arith)) (le-ltb 64 (suc t) (omega arith))))
          ∙ ap (λ (c : Board). sends m c [] ReleaseKind) (cond-true (serves (at heard_board k) a r) _ _ frees_k)

      told_only : Only a b told_board
      told_only = only_then a b heard_board told_board (only_put a b k (hearing (at b k) (suc t)) in_k refl refl) (only_put a heard_board k (freed (at heard_board k)) heard_long refl refl)

      pub release_comes : Out (release (suc t) r a k) xs ys → Went b ys (received m b (release (suc t) r a k))
      release_comes out = subst (λ (o : After (Option Kind)). Went b ys o) (sym received-release) (record {
        episode = moves m a r (at b) (at told_board) k link (release (suc t) r a k) xs ys [] out ep refl told_moved;
        less = works m a r (at b) (at told_board) k link (release (suc t) r a k) xs ys [] out ep refl told_moved;
        only = told_only;
        few = omega arith;
        came = (ReleaseKind, refl);
      })
