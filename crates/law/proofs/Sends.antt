-- What a node sends is true of it, and not foreign.
use Rattle.std.proofs.Common.{◌≡◌, ℕ, zero, suc, ◌-◌, ◌<◌, ◌≤◌, Bool, true, false, cond, not, ◌||◌, eqb, ◌⊎◌, [], ◌∷◌, sym, refl, ap, ◌∙◌, ap₂, inl, inr, ⊎_elim, arith}
use mathlib.Core.List.Memᴰ
use mathlib.Core.List.{Memᴰ}
use Rattle.std.proofs.lemmas.Bool.{cond-true, cond-false, eq-eqb, ne_eqb, le-ltb}
use Rattle.marks.specs.View.{marked}
use Rattle.marks.specs.Sets.{added}
use Rattle.map.specs.View.{linked}
use Rattle.map.specs.declared.Map.{Map}
use Rattle.radio.specs.declared.message.Message.{Message}
use Rattle.rig.specs.declared.node.Node.{Node}
use Rattle.rig.specs.Board.{each}
use Rattle.rig.specs.Steps.{offered, bound, request, grant, reject, release, fail, foreign}
use Rattle.law.proofs.Facts.{Locks, Live, Gone, Near, Sound, Nodes, Fact}
use Rattle.law.proofs.Turns.{not_zero}
use Rattle.law.proofs.Marking.{added_cases, added_old, added_new}

-- one of a row of messages is the one to some number that passes
pub each_in : {A : Type 0} (p : ℕ → Bool) (f : ℕ → A) (n : ℕ) (x : A) → Memᴰ x (each p f n) → (j : ℕ) × (p j ≡ true) × (x ≡ f j)
unfolding each
each_in p f zero x h = absurd (Memᴰ.not-nil h)
each_in {A} p f (suc n) x h = ⊎_elim (λ i. each_in p f n x i) (last (p n) refl) (Memᴰ.append_cases (each p f n) h)
  where
    last : (b : Bool) → p n ≡ b → Memᴰ x (cond b (f n ∷ []) []) → (j : ℕ) × (p j ≡ true) × (x ≡ f j)
    last true e i = (n, e, Memᴰ.eq_of_singleton i)
    last false e i = absurd (Memᴰ.not-nil i)

-- what a grant holds

offered_at : (v : Node) → (j : ℕ) → v.slot ≡ suc j → offered v ≡ added v.heard (v.slot - 1)
unfolding offered
offered_at v j e = cond-false (eqb v.slot 0) v.heard (added v.heard (v.slot - 1)) (ne_eqb v.slot 0 (λ z. omega arith))

offered_none : (v : Node) → v.slot ≡ 0 → offered v ≡ v.heard
unfolding offered
offered_none v e = cond-true (eqb v.slot 0) v.heard (added v.heard (v.slot - 1)) (eq-eqb v.slot 0 e)

pub offered-bound : (v : Node) (a r : ℕ) → offered (bound v a r) ≡ offered v
unfolding offered
offered-bound v a r = refl

cases_slot : (s : ℕ) → (s ≡ 0) ⊎ ((j : ℕ) × (s ≡ suc j))
cases_slot zero = inl refl
cases_slot (suc j) = inr (j, refl)

offered_own : (v : Node) (j : ℕ) → v.slot ≤ 64 → v.slot ≡ suc j → marked (offered v) j ≡ true
offered_own v j l e = rw (offered_at v j e) (added_new v.heard (v.slot - 1) j (omega arith) (omega arith))

offered_heard : (v : Node) (j : ℕ) → j < 64 → marked v.heard j ≡ true → marked (offered v) j ≡ true
offered_heard v j l h = ⊎_elim
    (λ e. rw (offered_none v e) h)
    (λ (i, e). rw (offered_at v i e) (added_old v.heard (v.slot - 1) j l h))
    (cases_slot v.slot)

offered_cases : (v : Node) (j : ℕ) → marked (offered v) j ≡ true → (marked v.heard j ≡ true) ⊎ (v.slot ≡ suc j)
offered_cases v j h = ⊎_elim
    (λ e. inl (rw (offered_none v e) at h))
    (λ (i, e). ⊎_elim inl (λ d. inr (omega arith)) (added_cases v.heard (v.slot - 1) j (rw (offered_at v i e) at h)))
    (cases_slot v.slot)

-- what is said

-- a message that is true of the nodes, and that its receiver does not refuse
pub record Said (m : Map) (nd : ℕ → Node) (x : Message) : Type 0 where
  pub fact : Fact (linked m) nd x
  pub home : foreign m x ≡ false

module _ (m : Map) (nd : ℕ → Node) where
  pub request_true : (r a b : ℕ) → linked m a b ≡ true → r ≤ (nd a).round → Said m nd (request r a b)
  request_true r a b l h = record {
    fact = record {
      asks = λ _. h;
      gives = λ e. absurd (omega arith);
      tells = λ e. absurd (omega arith);
      fails = λ e. absurd (omega arith);
    };
    home = ap (λ (v : Bool). not v || false) l;
  }

  pub reject_true : (r a b : ℕ) → linked m a b ≡ true → Said m nd (reject r a b)
  reject_true r a b l = record {
    fact = record {
      asks = λ e. absurd (omega arith);
      gives = λ e. absurd (omega arith);
      tells = λ e. absurd (omega arith);
      fails = λ e. absurd (omega arith);
    };
    home = ap (λ (v : Bool). not v || false) l;
  }

  pub release_true : (t r a b j : ℕ) → linked m a b ≡ true → t ≤ 64 → t ≡ suc j → (nd a).slot ≡ suc j → (nd a).round ≡ r → Said m nd (release t r a b)
  release_true t r a b j l few e d h = record {
    fact = record {
      asks = λ e. absurd (omega arith);
      gives = λ e. absurd (omega arith);
      tells = λ _. (j, e, d, h);
      fails = λ e. absurd (omega arith);
    };
    home = ap₂ (λ (u v : Bool). not u || v) l (ap₂ (λ (u v : Bool). u || v) (ne_eqb t 0 (λ z. omega arith)) (le-ltb 64 t few));
  }

  pub fail_true : (r a b : ℕ) → linked m a b ≡ true → Gone (nd a) r → Said m nd (fail r a b)
  fail_true r a b l g = record {
    fact = record {
      asks = λ e. absurd (omega arith);
      gives = λ e. absurd (omega arith);
      tells = λ e. absurd (omega arith);
      fails = λ _. g;
    };
    home = ap (λ (v : Bool). not v || false) l;
  }

  -- a node in grant for a may send its grant at any time
  pub grant_true : Nodes (linked m) nd → (b a r : ℕ) → Locks (nd b) a r → Said m nd (grant (offered (nd b)) r b a)
  grant_true inv b a r lock = record {
    fact = record {
      asks = λ e. absurd (omega arith);
      gives = λ _. ((inv.locked b a r lock).1, λ live. ((m.both a b ∙ (inv.locked b a r lock).0, lock, λ c j n e. full live c j e n), sound));
      tells = λ e. absurd (omega arith);
      fails = λ e. absurd (omega arith);
    };
    home = ap (λ (v : Bool). not v || false) (inv.locked b a r lock).0;
  }
    where
      full : Live (nd a) r → (c j : ℕ) → (nd c).slot ≡ suc j → Near (linked m) b c → marked (offered (nd b)) j ≡ true
      full live c j e (inl s) = offered_own (nd b) j (inv.small b) (ap (λ (i : ℕ). (nd i).slot) (sym s) ∙ e)
      full live c j e (inr l) = ⊎_elim (offered_heard (nd b) j (let s = inv.small c in omega arith))
          (λ k. not_zero (nd c).slot j (inv.calm c (ap (λ (i : ℕ). (nd i).phase) (sym k.1 ∙ lock.1) ∙ live.0)) e)
          (inv.fully b c j l e)

      sound : Sound (linked m) nd b (offered (nd b))
      sound j h = ⊎_elim (λ t. let (c, l, e) = inv.truly b j t in (c, inr l, e)) (λ e. (b, inl refl, e)) (offered_cases (nd b) j h)
