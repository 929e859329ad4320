use Rattle.std.proofs.Common.{◌≡◌, ℕ, ◌<◌, Bool, ◌&&◌, ◌||◌, eqb, ◌≢◌, length, set, Ok, Result, sym, refl, ◌∙◌, ap₂, arith, length-set}
use Rattle.std.proofs.lemmas.Bool.{lt-ltb, ne_eqb}
use Rattle.marks.specs.View.{marked}
use Rattle.refusal.specs.declared.Refusal.{Refusal}
use Rattle.map.specs.Rows.{has}
use Rattle.map.specs.View.{net}
use Rattle.map.specs.Calls.{linked_up, linking}
use Rattle.map.proofs.Rows.{one_link_more, still_mutual, still_apart, still_within, known_link}
use Rattle.map.proofs.Map.link.Goals as goal
use Rattle.map.proofs.Map.link.Goals.{After-with-2}

module _ (c : After-with-2) where
  abbrev i : ℕ
  i = c.from-i.result

  abbrev j : ℕ
  j = c.from-j.result

  i_in : i < c.args.self.now.count
  i_in = omega (arith, c.from-i.ensures)

  j_in : j < c.args.self.now.count
  j_in = omega (arith, c.from-j.ensures)

  full : length c.args.self.now.rows ≡ 64
  full = c.args.self.now.full

  i_row : i < length c.args.self.now.rows
  i_row = let m = c.args.self.now.most in omega (arith, full, i_in)

  j_row : j < length c.args.self.now.rows
  j_row = let m = c.args.self.now.most in omega (arith, full, j_in)

  differ : i ≢ j
  differ e = c.if-a-b.false (sym c.from-i.ensures ∙ e ∙ c.from-j.ensures)

  at_i : (k : ℕ) → marked c.with.result k ≡ (has c.args.self.now.rows i k || eqb k j)
  at_i k =
      let m = c.args.self.now.most in
      c.with.ensures.marks k
      ∙ ap₂ (λ (x : Bool) (y : ℕ). has c.args.self.now.rows i k || (x && eqb k y)) (lt-ltb c.args.b 64 (omega arith)) (sym c.from-j.ensures)

  at_j : (k : ℕ) → marked c.with-2.result k ≡ (has (set c.args.self.now.rows i c.with.result) j k || eqb k i)
  at_j k =
      let m = c.args.self.now.most in
      c.with-2.ensures.marks k
      ∙ ap₂ (λ (x : Bool) (y : ℕ). has (set c.args.self.now.rows i c.with.result) j k || (x && eqb k y)) (lt-ltb c.args.a 64 (omega arith)) (sym c.from-i.ensures)

pub invariant_of-self : goal.invariant_of-self
invariant_of-self c =
    let m = c.args.self.now in
    let ri = c.with.result in
    let rj = c.with-2.result in
    record {
      least = m.least;
      most = m.most;
      full = simp length-set m.full;
      both = still_mutual m.rows (i c) (j c) ri rj (i_row c) (j_row c) (differ c) (at_i c) (at_j c) m.both;
      apart = still_apart m.rows (i c) (j c) ri rj (i_row c) (j_row c) (differ c) (at_i c) (at_j c) m.apart;
      within = still_within m.rows (i c) (j c) ri rj (i_row c) (j_row c) (differ c) (at_i c) (at_j c) m.count (i_in c) (j_in c) m.within;
    }

allowed : (m a b : ℕ) → a < m → b < m → a ≢ b → ◌≡◌ {A = Result (Unit {0}) Refusal} (Ok tt) (linking m a b)
allowed m a b p q n = rw (lt-ltb a m p, lt-ltb b m q, ne_eqb a b n) refl

pub returns : goal.returns
returns c =
    let d = (goal.at.returns c).After-with-2 in
    let m = c.args.self.now in
    let more =
    one_link_more m.rows (i d) (j d) c.with.result c.with-2.result (i_row d) (j_row d) (differ d) (at_i d) (at_j d) m.count
    ∙ ap₂ (linked_up (net m)) c.from-i.ensures c.from-j.ensures in
    record {
      answer = allowed m.count c.args.a c.args.b (omega arith) (omega arith) c.if-a-b.false;
      after = more;
      again = λ t. more ∙ known_link (net m) c.args.a c.args.b m.both t;
    }
