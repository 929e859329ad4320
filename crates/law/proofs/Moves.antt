-- The turns that the rules allow a node.
use Rattle.std.proofs.Common.{◌≡◌, ℕ, suc, ◌-◌, ◌<◌, ◌≤◌, Bool, true, false, eqb, sym, refl, ap, ◌∙◌, inl, inr, ⊎_elim, arith}
use Rattle.std.proofs.lemmas.Bool.{cond_both}
use Rattle.marks.specs.declared.Marks.{Marks}
use Rattle.marks.specs.View.{marked}
use Rattle.rig.specs.declared.node.Node.{Node}
use Rattle.rig.specs.declared.node.Phase.{Phase}
use Rattle.rig.specs.declared.node.Phase.TheVariants.{Idle, Request, Grant, Release}
use Rattle.marks.specs.Sets.{joined}
use Rattle.rig.specs.Steps.{asking, bound, counted, decided, phased, hearing, freed}
use Rattle.law.proofs.Facts.{Locks, Live, Near, Contends, Sound, Held, Nodes, Turn}
use Rattle.law.proofs.Turns.{not_both, not_zero}
use Rattle.law.proofs.Marking.{none-marked, joined_cases, joined_left, joined_right, added_cases, added_old}

-- neither waiting nor in grant
abbrev pub Quiet : Phase → Type 0
Quiet p = (p ≡ Request → ⊥) × (p ≡ Grant → ⊥)

pub idle_quiet : Quiet Idle
idle_quiet = (λ e. cc, λ e. cc)

pub release_quiet : Quiet Release
release_quiet = (λ e. cc, λ e. cc)

pub freed_quiet : (v : Node) → Quiet (freed v).phase
freed_quiet v = cond_both (eqb v.slot 0) Idle Release Quiet (λ _. idle_quiet) (λ _. release_quiet)

not_grant : Grant ≡ Request → ⊥
not_grant e = cc

not_request : Request ≡ Grant → ⊥
not_request e = cc

module _ (lk : ℕ → ℕ → Bool) (nd : ℕ → Node) (inv : Nodes lk nd) (k : ℕ) where
  pub stays : Turn lk nd k (nd k)
  stays = record {
    calm = inv.calm k;
    small = inv.small k;
    few = inv.few k;
    dates = inv.dates k;
    locked = inv.locked k;
    truly = inv.truly k;
    grants = λ q b h. (q, refl, inv.grants k b q h);
    takes = λ q j. inv.takes k j q;
    slots = λ j e. (e, refl);
    rounds = omega arith;
    hears = λ j _ h. h;
    gone = λ r g. g;
    live = λ r _ l. l;
    fresh = λ j e. inl e;
    locks = λ a r l. inl l;
  }

  -- a draw is won
  pub asks : (nd k).slot ≡ 0 → ((nd k).round ≡ 65535 → ⊥) → ((nd k).phase ≡ Grant → ⊥) → Turn lk nd k (asking (nd k))
  asks e last g = record {
    calm = λ _. e;
    small = inv.small k;
    few = (let h = inv.few k in omega arith);
    dates = λ j s. not_zero (nd k).slot j e s;
    locked = λ a r l. absurd (not_request l.0);
    truly = inv.truly k;
    grants = λ q b h. none-marked b h;
    takes = λ q j h. none-marked j h;
    slots = λ j s. not_zero (nd k).slot j e s;
    rounds = omega arith;
    hears = λ j _ h. h;
    gone = λ r o. inl (⊎_elim (λ l. omega arith) (λ p. let h = p.0 in omega arith) o);
    live = λ r l p. absurd (let h = p.1 in omega arith);
    fresh = λ j s. inl s;
    locks = λ a r l. absurd (g l.0);
  }

  -- a request is granted
  pub binds : Quiet (nd k).phase → (a r : ℕ) → lk k a ≡ true → r ≤ (nd a).round → Turn lk nd k (bound (nd k) a r)
  binds q a r l le = record {
    calm = λ e. absurd (not_grant e);
    small = inv.small k;
    few = inv.few k;
    dates = inv.dates k;
    locked = λ a' r' (_, x, y). (rw x at l, rw (y, x) at le);
    truly = inv.truly k;
    grants = λ e. absurd (not_grant e);
    takes = λ e. absurd (not_grant e);
    slots = λ j s. (s, refl);
    rounds = omega arith;
    hears = λ j _ h. h;
    gone = λ r o. ⊎_elim inl (λ (x, _, y). inr (x, not_grant, y)) o;
    live = λ r _ p. absurd (not_grant p.0);
    fresh = λ j s. inl s;
    locks = λ a r p. absurd (q.1 p.0);
  }

  -- a grant is counted
  pub counts : ((b : ℕ) → lk b b ≡ false) → (nd k).phase ≡ Request → (a : ℕ) (s : Marks) → Held lk nd a k (nd k).round s → Sound lk nd a s → Turn lk nd k (counted (nd k) a s)
  counts apart q a s held sound = record {
    calm = inv.calm k;
    small = inv.small k;
    few = inv.few k;
    dates = inv.dates k;
    locked = inv.locked k;
    truly = inv.truly k;
    grants = λ _ b h. (q, refl, ⊎_elim (old b) (new b) (added_cases (nd k).granted a b h));
    takes = λ _ j h. ⊎_elim (inv.takes k j q) (λ t. around (sound j t)) (joined_cases (nd k).taken s j h);
    slots = λ j e. (e, refl);
    rounds = omega arith;
    hears = λ j _ h. h;
    gone = λ r g. g;
    live = λ r _ l. l;
    fresh = λ j e. inl e;
    locks = λ a r l. inl l;
  }
    where
      small : (c j : ℕ) → (nd c).slot ≡ suc j → j < 64
      small c j e = let l = inv.small c in omega arith

      old : (b : ℕ) → marked (nd k).granted b ≡ true → Held lk nd b k (nd k).round (joined (nd k).taken s)
      old b h = let (l, lock, full) = inv.grants k b q h in (l, lock, λ c j n e. joined_left (nd k).taken s j (small c j e) (full c j n e))

      new : (b : ℕ) → b ≡ a → Held lk nd b k (nd k).round (joined (nd k).taken s)
      new b e = rw e (held.0, held.1, λ c j n d. joined_right (nd k).taken s j (small c j d) (held.2 c j n d))

      around : {j : ℕ} → (c : ℕ) × Near lk a c × ((nd c).slot ≡ suc j) → (c : ℕ) × Contends lk k c × ((nd c).slot ≡ suc j)
      around {j} (c, inl e, d) = (c, ((λ z. not_zero (nd k).slot j (inv.calm k q) (ap (λ (i : ℕ). (nd i).slot) z ∙ d)), inl (rw e held.0)), d)
      around {j} (c, inr l, d) = (c, ((λ z. not_zero (nd k).slot j (inv.calm k q) (ap (λ (i : ℕ). (nd i).slot) z ∙ d)), inr (a, held.0, l)), d)

  -- all grants are there
  pub decides : (nd k).phase ≡ Request → ((b : ℕ) → lk b k ≡ true → Locks (nd b) k (nd k).round) → (s t : ℕ) → s < 64 → Turn lk nd k (decided (nd k) (suc s) t)
  decides q all s t free = record {
    calm = λ e. absurd (release_quiet.0 e);
    small = free;
    few = inv.few k;
    dates = λ j e. refl;
    locked = λ a r p. absurd (release_quiet.1 p.0);
    truly = inv.truly k;
    grants = λ e. absurd (release_quiet.0 e);
    takes = λ e. absurd (release_quiet.0 e);
    slots = λ j e. not_zero (nd k).slot j (inv.calm k q) e;
    rounds = omega arith;
    hears = λ j _ h. h;
    gone = λ r o. ⊎_elim inl (λ (x, n, y). absurd (n q)) o;
    live = λ r _ p. absurd (release_quiet.0 p.0);
    fresh = λ j e. inr (q, refl, all);
    locks = λ a r p. not_both (nd k).phase q p.0;
  }

  -- the round is given up
  pub leaves : (nd k).phase ≡ Request → Turn lk nd k (phased (nd k) Idle)
  leaves q = record {
    calm = λ e. inv.calm k q;
    small = inv.small k;
    few = inv.few k;
    dates = inv.dates k;
    locked = λ a r p. absurd (idle_quiet.1 p.0);
    truly = inv.truly k;
    grants = λ e. absurd (idle_quiet.0 e);
    takes = λ e. absurd (idle_quiet.0 e);
    slots = λ j e. (e, refl);
    rounds = omega arith;
    hears = λ j _ h. h;
    gone = λ r o. ⊎_elim inl (λ (x, n, y). absurd (n q)) o;
    live = λ r _ p. absurd (idle_quiet.0 p.0);
    fresh = λ j e. inl e;
    locks = λ a r p. not_both (nd k).phase q p.0;
  }

  -- a slot is heard
  pub learns : (c s : ℕ) → lk k c ≡ true → (nd c).slot ≡ suc (s - 1) → Turn lk nd k (hearing (nd k) s)
  learns c s l e = record {
    calm = inv.calm k;
    small = inv.small k;
    few = inv.few k;
    dates = inv.dates k;
    locked = inv.locked k;
    truly = λ j h. ⊎_elim (inv.truly k j) (λ d. (c, l, e ∙ ap suc (sym d))) (added_cases (nd k).heard (s - 1) j h);
    grants = λ q b h. (q, refl, inv.grants k b q h);
    takes = λ q j. inv.takes k j q;
    slots = λ j e. (e, refl);
    rounds = omega arith;
    hears = λ j l h. added_old (nd k).heard (s - 1) j l h;
    gone = λ r g. g;
    live = λ r _ l. l;
    fresh = λ j e. inl e;
    locks = λ a r l. inl l;
  }

  -- a lock is left, its round being over
  pub opens : (a r : ℕ) → Locks (nd k) a r → (Live (nd a) r → ⊥) → ((j : ℕ) → (nd a).slot ≡ suc j → r ≡ (nd a).round → marked (nd k).heard j ≡ true) → Turn lk nd k (freed (nd k))
  opens a r lock over known = record {
    calm = λ e. absurd ((freed_quiet (nd k)).0 e);
    small = inv.small k;
    few = inv.few k;
    dates = inv.dates k;
    locked = λ a r p. absurd ((freed_quiet (nd k)).1 p.0);
    truly = inv.truly k;
    grants = λ e. absurd ((freed_quiet (nd k)).0 e);
    takes = λ e. absurd ((freed_quiet (nd k)).0 e);
    slots = λ j e. (e, refl);
    rounds = omega arith;
    hears = λ j _ h. h;
    gone = λ r o. ⊎_elim inl (λ (x, _, y). inr (x, (freed_quiet (nd k)).0, y)) o;
    live = λ r _ p. absurd ((freed_quiet (nd k)).0 p.0);
    fresh = λ j e. inl e;
    locks = λ a' r' p. inr (moved a' r' (sym lock.1 ∙ p.1) (sym lock.2 ∙ p.2));
  }
    where
      moved : (a' r' : ℕ) → a ≡ a' → r ≡ r' → (Live (nd a') r' → ⊥) × ((j : ℕ) → (nd a').slot ≡ suc j → r' ≡ (nd a').round → marked (nd k).heard j ≡ true)
      moved a' r' x y = rw (← x, ← y) (over, known)
