-- Tables that agree on the items get the same answer.
use Rattle.std.proofs.Common.{◌≡◌, ℕ, ◌<◌, ◌≤◌, Bool, ◌⊎◌, List, length, get_or, Ok, Err, Result, sym, ◌∙◌, subst, inl, inr, arith}
use Rattle.refusal.proofs.Why.{Why-cases}
use Rattle.refusal.specs.Entry.{entry}
use Rattle.refusal.specs.declared.Refusal.{Refusal}
use Rattle.schedule.specs.Sharing.{Shares, Alone, Largest, Checked}
use Rattle.schedule.specs.declared.checking.Verdict.{Verdict}
use Rattle.schedule.specs.declared.checking.Verdict.TheVariants.{Accepted, Clash}

module _ (clash : ℕ → ℕ → Bool) (n : ℕ) where
  shares_like : (w s : List ℕ) → ((k : ℕ) → k < n → get_or w k 0 ≡ get_or s k 0) → (a b : ℕ) → a < n → b < n → Shares clash s a b → Shares clash w a b
  shares_like w s same a b ha hb p = record {
    placed = subst (λ (v : ℕ). 0 < v) (sym (same a ha)) p.placed;
    same = same b hb ∙ p.same ∙ sym (same a ha);
    clashing = p.clashing;
  }

module _ (clash : ℕ → ℕ → Bool) (n : ℕ) (w s : List ℕ) (same : (k : ℕ) → k < n → get_or w k 0 ≡ get_or s k 0) where
  alone_on : (a b : ℕ) → a < n → b ≤ n → Alone clash w a b → Alone clash s a b
  alone_on a b ha hb p = λ y l m q. p y l m (shares_like clash n w s same a y ha (omega arith) q)

  largest_on : (m : ℕ) → Largest n w m → Largest n s m
  largest_on m l = record { above = λ k h. subst (λ (v : ℕ). v ≤ m) (same k h) (l.above k h); there = go l.there }
    where
      go : (m ≡ 0) ⊎ ((k : ℕ) × (k < n) × (get_or w k 0 ≡ m)) → (m ≡ 0) ⊎ ((k : ℕ) × (k < n) × (get_or s k 0 ≡ m))
      go (inl e) = inl e
      go (inr (k, h, e)) = inr (k, h, sym (same k h) ∙ e)

  pub checked_on : (r : Result Verdict Refusal) → n ≤ length w → n ≤ length s → Checked clash n w r → Checked clash n s r
  checked_on (Ok (Accepted m)) lw ls (h, (clear, largest)) = (ls, ((λ x y lx ly p. clear x y lx ly (shares_like clash n w s same x y lx ly p)), largest_on m largest))
  checked_on (Ok (Clash pair)) lw ls (h, p) = (
    ls,
    record {
      after = p.after;
      inside = p.inside;
      shares = let a = p.after in let b = p.inside in shares_like clash n s w (λ k h. sym (same k h)) pair.0 pair.1 (omega arith) p.inside p.shares;
      first = λ x l. let a = p.after in let b = p.inside in alone_on x n (omega arith) (omega arith) (p.first x l);
      second = let a = p.after in let b = p.inside in alone_on pair.0 pair.1 (omega arith) (omega arith) p.second;
    },
  )
  checked_on (Err e) lw ls h = absurd (elim (Why-cases (entry e).number 1 (length w < n) ⊥ h) [ inl q ↦ omega arith | inr q ↦ q ])
