-- A delivery that brings one neighbour to its next stage keeps the episode, and one delivery less is still to come.
use Rattle.std.proofs.Common.{◌≡◌, ℕ, ◌+◌, ◌<◌, Bool, true, false, cond, eqb, ◌⊎◌, List, sym, refl, ap, ◌∙◌, subst, inl, inr, ⊎_elim, arith}
use Rattle.std.proofs.lemmas.Bool.{both_ways, cases_eq, ne_eqb, cond-false}
use Rattle.marks.specs.View.{marked}
use Rattle.map.specs.View.{linked, nodes}
use Rattle.map.specs.declared.Map.{Map}
use Rattle.radio.specs.Ways.{In}
use Rattle.radio.specs.declared.message.Message.{Message}
use Rattle.rig.specs.declared.node.Node.{Node}
use Rattle.rig.specs.declared.node.Phase.TheVariants.{Idle, Request, Release}
use Rattle.rig.specs.Calm.{is_request, is_grant}
use Rattle.rig.specs.Steps.{freed}
use Rattle.drive.proofs.Airs.{Out, Into}
use Rattle.drive.proofs.Episode.{about, hits, wait, cost, work, Word, asked, given, told, Episode}
use Rattle.drive.proofs.Hits.{hits_in, one_if, none_if, wait_small, wait_is, cost_is, sum_at}

-- a node in release with a slot is as if it had been freed
pub freed_release : (v : Node) → v.phase ≡ Release → 0 < v.slot → v.phase ≡ (freed v).phase
freed_release v e l = e ∙ sym (cond-false (eqb v.slot 0) Idle Release (ne_eqb v.slot 0 (λ z. let u : ⊥ = omega arith in u)))

module _ (m : Map) (a : ℕ) where
  pub apart : (k : ℕ) → linked m a k ≡ true → k ≡ a → ⊥
  apart k l e = both_ways (linked m a k) (ap (linked m a) e ∙ m.apart a) l

  pub inside : (k : ℕ) → linked m a k ≡ true → k < nodes m
  inside k l = m.within k a (m.both k a ∙ l)

  -- one delivery less about k, and as many about the others
  pub work_less : (nd nd' : ℕ → Node) (k : ℕ) → linked m a k ≡ true → cost (nd a) k (nd k) ≡ cost (nd' a) k (nd' k) + 1
      → ((i : ℕ) → (i ≡ k → ⊥) → linked m a i ≡ true → cost (nd a) i (nd i) ≡ cost (nd' a) i (nd' i)) → work m a nd ≡ work m a nd' + 1
  work_less nd nd' k link less same =
      sum_at (λ i. cond (linked m a i) (cost (nd' a) i (nd' i)) 0) (λ i. cond (linked m a i) (cost (nd a) i (nd i)) 0) (nodes m) k 1 (inside k link)
      (ap (λ (v : Bool). cond v (cost (nd a) k (nd k)) 0) link ∙ less ∙ sym (ap (λ (v : Bool). cond v (cost (nd' a) k (nd' k)) 0 + 1) link))
      (λ i d. kept i d (linked m a i) refl)
    where
      kept : (i : ℕ) → (i ≡ k → ⊥) → (v : Bool) → linked m a i ≡ v → cond v (cost (nd a) i (nd i)) 0 ≡ cond v (cost (nd' a) i (nd' i)) 0
      kept i d true l = same i d l
      kept i d false l = refl

module _ (m : Map) (a r : ℕ) where
  pub word_about : (nd : ℕ → Node) (x : Message) → Word m a r nd x → (k : ℕ) × (linked m a k ≡ true) × (about x ≡ k)
  word_about nd x (asked k l _ _ _ e) = (k, l, ap about e)
  word_about nd x (given k s l _ _ _ e) = (k, l, ap about e)
  word_about nd x (told k t _ l _ _ e) = (k, l, ap about e)

  -- the neighbour k moves on, and these messages are sent
  pub record Moved (nd nd' : ℕ → Node) (k : ℕ) (sent : List Message) : Type 0 where
    pub phase : (nd' a).phase ≡ (nd a).phase
    pub round : (nd' a).round ≡ (nd a).round
    pub slot : (nd' a).slot ≡ (nd a).slot
    pub same : (i : ℕ) → (i ≡ k → ⊥) → (i ≡ a → ⊥) → nd' i ≡ nd i
    pub granted : (i : ℕ) → linked m a i ≡ true → (i ≡ k → ⊥) → marked (nd' a).granted i ≡ marked (nd a).granted i
    pub calm : is_request (nd' k).phase ≡ false
    pub lock : is_grant (nd' k).phase ≡ true → ((nd' k).holder ≡ a) × ((nd' k).term ≡ r)
    pub proper : is_grant (nd' k).phase ≡ false → (nd' k).phase ≡ (freed (nd' k)).phase
    pub words : (y : Message) → In y sent → Word m a r nd' y
    pub here : hits k sent ≡ wait (nd' a) k (nd' k)
    pub there : (i : ℕ) → (i ≡ k → ⊥) → hits i sent ≡ 0
    pub short : (nd' a).phase ≡ Request → (i : ℕ) × (linked m a i ≡ true) × (marked (nd' a).granted i ≡ false)
    pub marks : marked (nd' a).granted k ≡ true → (nd' a).phase ≡ Request → is_grant (nd' k).phase ≡ true
    pub less : cost (nd a) k (nd k) ≡ cost (nd' a) k (nd' k) + 1

  module _ (nd nd' : ℕ → Node) (k : ℕ) (link : linked m a k ≡ true) (x : Message) (xs ys sent : List Message)
      (out : Out x xs ys) (ep : Episode m a r nd xs) (at_k : about x ≡ k) (mv : Moved nd nd' k sent) where
    gone : hits k ys ≡ 0
    gone =
        let h = ep.waits k link in
        let c = out.counts (λ y. eqb (about y) k) in
        let s = wait_small (nd a) k (nd k) in
        let o = one_if (about x) k at_k in
        omega arith

    off : (y : Message) → In y ys → (i : ℕ) → about y ≡ i → i ≡ k → ⊥
    off y i j e d = let h = hits_in k ys y i (e ∙ d) in let g = gone in omega arith

    old_grant : (i : ℕ) → linked m a i ≡ true → (i ≡ k → ⊥) → is_grant (nd' i).phase ≡ is_grant (nd i).phase
    old_grant i l d = ap (λ (v : Node). is_grant v.phase) (mv.same i d (apart m a i l))

    kept : (y : Message) → In y ys → Word m a r nd y → Word m a r nd' y
    kept y i (asked j l q g n e) = let d = off y i j (ap about e) in asked j l (mv.phase ∙ q) (old_grant j l d ∙ g) (mv.granted j l d ∙ n) e
    kept y i (given j s l q g n e) = let d = off y i j (ap about e) in given j s l (mv.phase ∙ q) (old_grant j l d ∙ g) (mv.granted j l d ∙ n) e
    kept y i (told j t few l q g e) = let d = off y i j (ap about e) in told j t few l (ap is_request mv.phase ∙ q) (old_grant j l d ∙ g) e

    wait_same : (i : ℕ) → linked m a i ≡ true → (i ≡ k → ⊥) → wait (nd' a) i (nd' i) ≡ wait (nd a) i (nd i)
    wait_same i l d = wait_is (nd' a) i (nd' i) (is_request (nd a).phase) (marked (nd a).granted i) (is_grant (nd i).phase) (ap is_request mv.phase) (mv.granted i l d) (old_grant i l d)

    cost_same : (i : ℕ) → (i ≡ k → ⊥) → linked m a i ≡ true → cost (nd a) i (nd i) ≡ cost (nd' a) i (nd' i)
    cost_same i d l = sym (cost_is (nd' a) i (nd' i) (is_request (nd a).phase) (marked (nd a).granted i) (is_grant (nd i).phase) (ap is_request mv.phase) (mv.granted i l d) (old_grant i l d))

    pub moves : (zs : List Message) → Into ys sent zs → Episode m a r nd' zs
    moves zs into = record {
      round = mv.round ∙ ep.round;
      self = ap is_grant mv.phase ∙ ep.self;
      others = λ i d. ⊎_elim (λ e. subst (λ (j : ℕ). is_request (nd' j).phase ≡ false) (sym e) mv.calm) (λ n. ap (λ (v : Node). is_request v.phase) (mv.same i n d) ∙ ep.others i d) (cases_eq i k);
      locks = λ i h. lock_at i h (cases_eq i k) (cases_eq i a);
      proper = λ i q g. proper_at i q g (cases_eq i k) (cases_eq i a);
      words = λ y i. ⊎_elim (λ j. kept y j (ep.words y (out.left y j))) (mv.words y) (into.cases y i);
      waits = λ i l. ⊎_elim (at_here i) (λ d. at_there i l d) (cases_eq i k);
      done = λ h. subst (λ (v : ℕ). 0 < v) (sym mv.slot) (ep.done (sym (ap is_request mv.phase) ∙ h));
      short = mv.short;
      marks = λ q i l h. ⊎_elim (λ e. subst (λ (j : ℕ). is_grant (nd' j).phase ≡ true) (sym e) (mv.marks (subst (λ (j : ℕ). marked (nd' a).granted j ≡ true) e h) q)) (λ d. old_grant i l d ∙ ep.marks (sym mv.phase ∙ q) i l (sym (mv.granted i l d) ∙ h)) (cases_eq i k);
    }
      where
        lock_at : (i : ℕ) → is_grant (nd' i).phase ≡ true → (i ≡ k) ⊎ (i ≡ k → ⊥) → (i ≡ a) ⊎ (i ≡ a → ⊥) → (linked m a i ≡ true) × ((nd' i).holder ≡ a) × ((nd' i).term ≡ r)
        lock_at i h (inl e) _ = let (x, y) = mv.lock (subst (λ (j : ℕ). is_grant (nd' j).phase ≡ true) e h) in
            subst (λ (j : ℕ). (linked m a j ≡ true) × ((nd' j).holder ≡ a) × ((nd' j).term ≡ r)) (sym e) (link, x, y)
        lock_at i h (inr d) (inl e) = absurd (both_ways (is_grant (nd' a).phase) (ap is_grant mv.phase ∙ ep.self) (subst (λ (j : ℕ). is_grant (nd' j).phase ≡ true) e h))
        lock_at i h (inr d) (inr n) = let s = mv.same i d n in
            subst (λ (v : Node). (linked m a i ≡ true) × (v.holder ≡ a) × (v.term ≡ r)) (sym s) (ep.locks i (subst (λ (v : Node). is_grant v.phase ≡ true) s h))

        proper_at : (i : ℕ) → is_request (nd' i).phase ≡ false → is_grant (nd' i).phase ≡ false → (i ≡ k) ⊎ (i ≡ k → ⊥) → (i ≡ a) ⊎ (i ≡ a → ⊥) → (nd' i).phase ≡ (freed (nd' i)).phase
        proper_at i q g (inl e) _ = subst (λ (j : ℕ). (nd' j).phase ≡ (freed (nd' j)).phase) (sym e) (mv.proper (subst (λ (j : ℕ). is_grant (nd' j).phase ≡ false) e g))
        proper_at i q g (inr d) (inl e) = subst (λ (j : ℕ). (nd' j).phase ≡ (freed (nd' j)).phase) (sym e)
            (mv.phase
            ∙ ep.proper a (sym (ap is_request mv.phase) ∙ subst (λ (j : ℕ). is_request (nd' j).phase ≡ false) e q) ep.self
            ∙ ap (λ (s : ℕ). cond (eqb s 0) Idle Release) (sym mv.slot))
        proper_at i q g (inr d) (inr n) = let s = mv.same i d n in
            subst (λ (v : Node). v.phase ≡ (freed v).phase) (sym s) (ep.proper i (subst (λ (v : Node). is_request v.phase ≡ false) s q) (subst (λ (v : Node). is_grant v.phase ≡ false) s g))

        at_here : (i : ℕ) → i ≡ k → hits i zs ≡ wait (nd' a) i (nd' i)
        at_here i e = subst (λ (j : ℕ). hits j zs ≡ wait (nd' a) j (nd' j)) (sym e)
            (let p = into.counts (λ y. eqb (about y) k) in let g = gone in let h = mv.here in omega arith)

        at_there : (i : ℕ) → linked m a i ≡ true → (i ≡ k → ⊥) → hits i zs ≡ wait (nd' a) i (nd' i)
        at_there i l d =
            let p = into.counts (λ y. eqb (about y) i) in
            let q = out.counts (λ y. eqb (about y) i) in
            let g : hits i sent ≡ 0 = mv.there i d in
            let o = none_if (about x) i (λ e. d (sym e ∙ at_k)) in
            let h = ep.waits i l in
            let w = wait_same i l d in
            omega arith

    pub works : work m a nd ≡ work m a nd' + 1
    works = work_less m a nd nd' k link mv.less cost_same
