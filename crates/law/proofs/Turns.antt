-- The invariant stays when each node makes a lawful turn.
use Rattle.std.proofs.Common.{◌≡◌, ℕ, suc, Bool, true, ◌⊎◌, sym, refl, ap, ◌∙◌, inl, inr, ⊎_elim, arith}
use Rattle.marks.specs.declared.Marks.{Marks}
use Rattle.marks.specs.View.{marked}
use Rattle.radio.specs.declared.message.Message.{Message}
use Rattle.rig.specs.declared.node.Node.{Node}
use Rattle.rig.specs.declared.node.Phase.{Phase}
use Rattle.rig.specs.declared.node.Phase.TheVariants.{Request, Grant}
use Rattle.law.proofs.Facts.{Locks, Live, Near, Held, Nodes, Fact, Turn}

pub not_both : {A : Type 0} (p : Phase) → p ≡ Request → p ≡ Grant → A
not_both p e f = cc

pub not_zero : {A : Type 0} (n j : ℕ) → n ≡ 0 → n ≡ suc j → A
not_zero n j e f = absurd (omega arith)

module _ (lk : ℕ → ℕ → Bool) (nd nd' : ℕ → Node) (inv : Nodes lk nd) (turn : (k : ℕ) → Turn lk nd k (nd' k)) where
  -- around a node in grant for a live round nobody decides
  old_slot : (b a r c j : ℕ) → Locks (nd b) a r → Live (nd' a) r → Near lk b c → (nd' c).slot ≡ suc j → (nd c).slot ≡ suc j
  old_slot b a r c j lock live near e = go near ((turn c).fresh j e)
    where
      go : Near lk b c → ((nd c).slot ≡ suc j) ⊎ (((nd c).phase ≡ Request) × ((nd' c).round ≡ (nd c).round) × ((d : ℕ) → lk d c ≡ true → Locks (nd d) c (nd c).round)) → (nd c).slot ≡ suc j
      go n (inl old) = old
      go (inl s) (inr (q, _, _)) = not_both (nd c).phase q (ap (λ (i : ℕ). (nd i).phase) s ∙ lock.0)
      go (inr l) (inr (q, _, all)) =
          let c≡a : c ≡ a = sym (all b l).1 ∙ lock.1 in
          not_zero (nd' c).slot j ((turn c).calm (ap (λ (i : ℕ). (nd' i).phase) c≡a ∙ live.0)) e

  held_kept : (b a r : ℕ) (s : Marks) → Live (nd a) r → Live (nd' a) r → Held lk nd b a r s → Held lk nd' b a r s
  held_kept b a r s live live' (l, lock, full) = (l, ⊎_elim (λ k. k) (λ o. absurd (o.0 live)) ((turn b).locks a r lock), λ c j near e. full c j near (old_slot b a r c j lock live' near e))

  fully' : (b c j : ℕ) → lk b c ≡ true → (nd' c).slot ≡ suc j → (marked (nd' b).heard j ≡ true) ⊎ Locks (nd' b) c (nd' c).round
  fully' b c j l e = go ((turn c).fresh j e)
    where
      at_new : (nd' c).round ≡ (nd c).round → Locks (nd' b) c (nd c).round → Locks (nd' b) c (nd' c).round
      at_new q k = (k.0, k.1, k.2 ∙ sym q)

      lost : (nd c).slot ≡ suc j → Locks (nd b) c (nd c).round → (marked (nd' b).heard j ≡ true) ⊎ Locks (nd' b) c (nd' c).round
      lost old lock = ⊎_elim (λ k. inr (at_new ((turn c).slots j old).1 k)) (λ o. inl (o.1 j old refl)) ((turn b).locks c (nd c).round lock)

      go : ((nd c).slot ≡ suc j) ⊎ (((nd c).phase ≡ Request) × ((nd' c).round ≡ (nd c).round) × ((d : ℕ) → lk d c ≡ true → Locks (nd d) c (nd c).round)) → (marked (nd' b).heard j ≡ true) ⊎ Locks (nd' b) c (nd' c).round
      go (inl old) = ⊎_elim (λ h. inl ((turn b).hears j (let s = inv.small c in omega arith) h)) (lost old) (inv.fully b c j l old)
      go (inr (q, s, all)) = ⊎_elim (λ k. inr (at_new s k)) (λ o. absurd (o.0 (q, refl))) ((turn b).locks c (nd c).round (all b l))

  grants' : (a b : ℕ) → (nd' a).phase ≡ Request → marked (nd' a).granted b ≡ true → Held lk nd' b a (nd' a).round (nd' a).taken
  grants' a b q h =
      let (q0, s, held) = (turn a).grants q b h in
      rw s (held_kept b a (nd a).round (nd' a).taken (q0, refl) (q, s) held)

  pub nodes_kept : Nodes lk nd'
  nodes_kept = record {
    calm = λ a. (turn a).calm;
    small = λ a. (turn a).small;
    few = λ a. (turn a).few;
    dates = λ a. (turn a).dates;
    locked = λ b a r k. let (l, le) = (turn b).locked a r k in (l, let up = (turn a).rounds in omega arith);
    truly = λ b j h. let (c, l, e) = (turn b).truly j h in (c, l, ((turn c).slots j e).0);
    fully = fully';
    grants = grants';
    takes = λ a j q h. let (c, d, e) = (turn a).takes q j h in (c, d, ((turn c).slots j e).0);
  }

  pub fact_kept : (x : Message) → Fact lk nd x → Fact lk nd' x
  fact_kept x f = record {
    asks = λ e. let h = f.asks e in let up = (turn x.sender).rounds in omega arith;
    gives = λ e. (
      let h = (f.gives e).0 in let up = (turn x.receiver).rounds in omega arith,
      λ live'. let live = (turn x.receiver).live x.round (f.gives e).0 live' in
          let (held, sound) = (f.gives e).1 live in
          (held_kept x.sender x.receiver x.round x.slots live live' held, λ j h. let (c, n, s) = sound j h in (c, n, ((turn c).slots j s).0)),
    );
    tells = λ e. let (j, s, t, r) = f.tells e in (j, s, ((turn x.sender).slots j t).0, ((turn x.sender).slots j t).1 ∙ r);
    fails = λ e. (turn x.sender).gone x.round (f.fails e);
  }
