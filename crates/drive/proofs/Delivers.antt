-- A delivery in an episode: whichever message comes, the episode goes on with one delivery less; and what holds when nothing waits.
use Rattle.std.proofs.Common.{◌≡◌, ℕ, ◌+◌, ◌<◌, ◌≤◌, Bool, true, false, cond, eqb, ◌⊎◌, List, [], length, Some, sym, refl, ap, ◌∙◌, subst, inl, inr, ⊎_elim, arith}
use Rattle.std.proofs.lemmas.Bool.{both_ways, cases_Bool, cases_eq, eq-eqb, ne_eqb, cond-true, cond-false}
use Rattle.marks.specs.View.{marked}
use Rattle.marks.proofs.Below.{sum_le}
use Rattle.map.specs.View.{linked, nodes}
use Rattle.map.specs.declared.Map.{Map}
use Rattle.radio.specs.Ways.{Ways, AirRule, puts}
use Rattle.radio.specs.declared.message.Message.{Message}
use Rattle.radio.proofs.Puts.{puts_air}
use Rattle.rig.specs.declared.node.Node.{Node}
use Rattle.rig.specs.declared.node.Phase.TheVariants.{Idle, Request, Release}
use Rattle.rig.specs.Calm.{at, is_request, is_grant}
use Rattle.rig.specs.Board.{Board}
use Rattle.rig.specs.Steps.{grant, counted, counts, received}
use Rattle.law.proofs.Facts.{Fact}
use Rattle.law.proofs.Boards.{Keeps, Good, here}
use Rattle.law.proofs.Decide.{slot_free}
use Rattle.law.proofs.Deliveries.{is-request, counts_kept, good_delivered}
use Rattle.drive.specs.Settling.{Rests}
use Rattle.drive.specs.Sure.{Sure}
use Rattle.drive.proofs.Airs.{Out, length-tally, takes_out, goes_into}
use Rattle.drive.proofs.Alone.{Only}
use Rattle.drive.proofs.Comes.{Went, request_comes, release_comes}
use Rattle.drive.proofs.Episode.{hits, cost, work, Word, asked, given, told, Episode, Busy}
use Rattle.drive.proofs.Grants.{grant_comes}
use Rattle.drive.proofs.Hits.{hits_off, length_hits, wait_small, cost_small, wait_is, cost_is, sum_none}
use Rattle.drive.proofs.Moves.{inside, word_about}

-- no more messages wait than there are nodes, and no more deliveries are to come than three for each

pub few_wait : (m : Map) (a r : ℕ) (nd : ℕ → Node) (xs : List Message) → Episode m a r nd xs → length xs ≤ nodes m
few_wait m a r nd xs ep =
    let e = length_hits (nodes m) xs (λ y i. let (k, l, d) = word_about m a r nd y (ep.words y i) in subst (λ (x : ℕ). x < nodes m) (sym d) (inside m a k l)) in
    let s = sum_le (λ k. hits k xs) 1 (nodes m) (λ k _. at_most k (cases_Bool (linked m a k))) in
    omega arith
  where
    at_most : (k : ℕ) → (linked m a k ≡ true) ⊎ (linked m a k ≡ false) → hits k xs ≤ 1
    at_most k (inl l) = let h = ep.waits k l in let w = wait_small (nd a) k (nd k) in omega arith
    at_most k (inr f) = let h = hits_off k xs (λ y i e. let (c, l, d) = word_about m a r nd y (ep.words y i) in both_ways (linked m a k) f (subst (λ (x : ℕ). linked m a x ≡ true) (sym d ∙ e) l)) in omega arith

pub few_left : (m : Map) (a : ℕ) (nd : ℕ → Node) → work m a nd ≤ 192
few_left m a nd =
    let s = sum_le (λ k. cond (linked m a k) (cost (nd a) k (nd k)) 0) 3 (nodes m) (λ k _. at_most k (linked m a k)) in
    let l = m.most in
    omega arith
  where
    at_most : (k : ℕ) (v : Bool) → cond v (cost (nd a) k (nd k)) 0 ≤ 3
    at_most k true = cost_small (nd a) k (nd k)
    at_most k false = omega arith

-- a message comes

module _ {S : Type 0} (w : Ways S) (rule : AirRule w) (sure : Sure w) (m : Map) (a r : ℕ) (b : Board) (s : S) (h : Busy w m a r b s) (x : Message) (e : w.taken s ≡ Some x) where
  abbrev left : List Message
  left = w.air (w.after_take s)

  out : Out x (w.air s) left
  out = takes_out w rule sure s x e

  fact : Fact (linked m) (at b) x
  fact = h.facts x out.there

  pub went : Went m a r b left (received m b x)
  went = by (h.episode.words x out.there)
    where
      by : Word m a r (at b) x → Went m a r b left (received m b x)
      by (asked k l q g n d) = subst (λ (y : Message). Went m a r b left (received m b y)) (sym d)
          (request_comes m a r b h.fine.long k l (w.air s) left h.episode q g n (subst (λ (y : Message). Out y (w.air s) left) d out))
      by (given k t l q g n d) = subst (λ (y : Message). Went m a r b left (received m b y)) (sym d)
          (grant_comes m a r b h.fine.long k l (w.air s) left h.episode t (subst (λ (y : Message). Out y (w.air s) left) d out) q g n
          (slot_free m (at (counts m b (grant t r k a))) kept.fine.nodes a (m.within a k l) (ap (λ (v : Node). v.phase) (here m b h.fine a (counted (at b a) k t) (m.within a k l)) ∙ q)))
        where
          kept : Keeps m b (counts m b (grant t r k a))
          kept = counts_kept m b h.fine (grant t r k a) (subst (λ (y : Message). Fact (linked m) (at b) y) d fact) (m.both k a ∙ l) refl (q, h.episode.round)
      by (told k t few l q g d) = subst (λ (y : Message). Went m a r b left (received m b y)) (sym d)
          (release_comes m a r b h.fine.long k l (w.air s) left h.episode t few q g (subst (λ (y : Message). Out y (w.air s) left) d out))

  good : Good m b (received m b x)
  good = good_delivered m b h.fine (Some x) (λ y d. subst (λ (z : Message). Fact (linked m) (at b) z) (let q : x ≡ y = cc in q) fact)

  room : length left + length (received m b x).sent ≤ 256
  room =
      let l = few_wait m a r (at b) (w.air s) h.episode in
      let k = m.most in
      let c = out.counts (λ _. true) in
      let p = length-tally (w.air s) in
      let q = length-tally left in
      let f = went.few in
      omega arith

  pub busy_on : Busy w m a r (received m b x).board (puts w (w.after_take s) (received m b x).sent)
  busy_on = record {
    fine = good.keeps.fine;
    facts = λ y i. ⊎_elim (λ j. good.keeps.facts y (h.facts y (rule.take_air s y j))) (λ j. (good.sent y j).fact) (puts_air w rule (w.after_take s) (received m b x).sent y i);
    episode = went.episode _ (goes_into w rule sure (w.after_take s) (received m b x).sent room);
  }

-- nothing waits

module _ {S : Type 0} (w : Ways S) (m : Map) (a r : ℕ) (b : Board) (s : S) (h : Busy w m a r b s) (empty : w.air s ≡ []) where
  none_about : (k : ℕ) → hits k (w.air s) ≡ 0
  none_about k = ap (hits k) empty

  quiet : is_request (at b a).phase ≡ false
  quiet = ⊎_elim (λ t. absurd (stuck (is-request (at b a).phase t))) (λ f. f) (cases_Bool (is_request (at b a).phase))
    where
      stuck : (at b a).phase ≡ Request → ⊥
      stuck q =
          let (j, l, n) = h.episode.short q in
          let v = wait_is (at b a) j (at b j) true false (is_grant (at b j).phase) (ap is_request q) n refl in
          let e = h.episode.waits j l in
          let z = none_about j in
          omega arith

  pub has_decided : 0 < (at b a).slot
  has_decided = h.episode.done quiet

  calm : (k : ℕ) → is_request (at b k).phase ≡ false
  calm k = ⊎_elim (λ e. subst (λ (j : ℕ). is_request (at b j).phase ≡ false) (sym e) quiet) (h.episode.others k) (cases_eq k a)

  free : (k : ℕ) → is_grant (at b k).phase ≡ false
  free k = ⊎_elim (λ t. absurd (stuck t)) (λ f. f) (cases_Bool (is_grant (at b k).phase))
    where
      stuck : is_grant (at b k).phase ≡ true → ⊥
      stuck t =
          let (l, _, _) = h.episode.locks k t in
          let v = wait_is (at b a) k (at b k) false (marked (at b a).granted k) true quiet refl t in
          let e = h.episode.waits k l in
          let z = none_about k in
          omega arith

  pub none_to_come : work m a (at b) ≡ 0
  none_to_come = sum_none (λ k. cond (linked m a k) (cost (at b a) k (at b k)) 0) (nodes m) (λ k _. nothing k (linked m a k))
    where
      nothing : (k : ℕ) (v : Bool) → cond v (cost (at b a) k (at b k)) 0 ≡ 0
      nothing k true = cost_is (at b a) k (at b k) false (marked (at b a).granted k) false quiet refl (free k)
      nothing k false = refl

  -- so no node is busy, if none was before
  pub all_rest : (b₀ : Board) → ((k : ℕ) → Rests (at b₀ k)) → Only a b₀ b → (k : ℕ) → Rests (at b k)
  all_rest b₀ before only k = by (cases_eq (at b k).slot 0) (cases_eq k a)
    where
      phase : (at b k).phase ≡ cond (eqb (at b k).slot 0) Idle Release
      phase = h.episode.proper k (calm k) (free k)

      never : (at b₀ k).slot ≡ 0 → Rests (at b₀ k) → (at b₀ k).round ≡ 0
      never z (inl (_, _, q)) = q
      never z (inr (_, l)) = absurd (let u : ⊥ = omega arith in u)

      by : ((at b k).slot ≡ 0) ⊎ ((at b k).slot ≡ 0 → ⊥) → (k ≡ a) ⊎ (k ≡ a → ⊥) → Rests (at b k)
      by (inr n) _ = inr (phase ∙ cond-false (eqb (at b k).slot 0) Idle Release (ne_eqb (at b k).slot 0 n), omega arith)
      by (inl z) (inl e) = absurd (let l = has_decided in let y : (at b a).slot ≡ 0 = ap (λ (j : ℕ). (at b j).slot) (sym e) ∙ z in let u : ⊥ = omega arith in u)
      by (inl z) (inr d) = inl (phase ∙ cond-true (eqb (at b k).slot 0) Idle Release (eq-eqb (at b k).slot 0 z), z, only.rounds k d ∙ never (sym (only.slots k d) ∙ z) (before k))
