-- What is shown of every call: it keeps the invariant, what it sends is true, and it decides one node rightly, or none.
use Rattle.std.proofs.Common.{◌≡◌, ℕ, suc, ◌<◌, not, eqb, ◌⊎◌, [], ◌∷◌, length, sym, refl, ap, ◌∙◌, inl, inr, ⊎_elim, arith}
use mathlib.Core.Path.{fun_ext}
use mathlib.Core.List.Memᴰ
use Rattle.std.proofs.lemmas.List.{length-set}
use Rattle.std.proofs.lemmas.Bool.{cases_eq}
use Rattle.schedule.specs.Rand.{least}
use Rattle.marks.specs.Below.{count_below}
use Rattle.refusal.specs.declared.Refusal.{Refusal}
use Rattle.map.specs.declared.Map.{Map}
use Rattle.map.specs.View.{linked, nodes, contend}
use Rattle.radio.specs.declared.message.Message.{Message}
use Rattle.rig.specs.declared.node.Node.{Node}
use Rattle.radio.specs.Ways.{In}
use Rattle.rig.specs.Calm.{at}
use Rattle.rig.specs.Board.{Board, put, decided_count}
use Rattle.rig.specs.Steps.{After, refused}
use Rattle.rig.proofs.Calms.{at-put, at_other}
use Rattle.law.proofs.Facts.{Nodes, Fact, Turn}
use Rattle.law.proofs.Turns.{nodes_kept, fact_kept}
use Rattle.law.proofs.Moves.{stays}
use Rattle.law.proofs.Sends.{Said}

pub record Same (b b' : Board) : Type 0 where
  pub slot : (k : ℕ) → (at b' k).slot ≡ (at b k).slot
  pub turn : (k : ℕ) → (at b' k).turn ≡ (at b k).turn

pub count_same : (n : ℕ) (b b' : Board) → Same b b' → decided_count n b' ≡ decided_count n b
count_same n b b' p = ap (λ (f : ℕ → ℕ). count_below (λ k. not (eqb (f k) 0)) n) (fun_ext p.slot)

module _ (m : Map) where
  pub record Fine (b : Board) : Type 0 where
    pub long : length (b) ≡ 64
    pub nodes : Nodes (linked m) (at b)

  pub record Keeps (b b' : Board) : Type 0 where
    pub fine : Fine b'
    pub facts : (x : Message) → Fact (linked m) (at b) x → Fact (linked m) (at b') x

  pub record Settles (b b' : Board) (k : ℕ) : Type 0 where
    pub inside : k < nodes m
    pub before : (at b k).slot ≡ 0
    pub here : (at b' k).slot ≡ least (contend m) (nodes m) (λ i. (at b i).slot) k
    pub after : 0 < (at b' k).slot
    pub place : (at b' k).turn ≡ suc (decided_count (nodes m) b)
    pub others : (i : ℕ) → (i ≡ k → ⊥) → ((at b' i).slot ≡ (at b i).slot) × ((at b' i).turn ≡ (at b i).turn)

  pub record Good {A : Type 0} (b : Board) (a : After A) : Type 0 where
    pub keeps : Keeps b a.board
    pub sent : (x : Message) → In x a.sent → Said m (at a.board) x
    pub moved : Same b a.board ⊎ ((k : ℕ) × Settles b a.board k)

  pub same_self : (b : Board) → Same b b
  same_self b = record { slot = λ k. refl; turn = λ k. refl }

  pub keeps_self : (b : Board) → Fine b → Keeps b b
  keeps_self b f = record { fine = f; facts = λ x h. h }

  pub none_sent : {nd : ℕ → Node} (x : Message) → In x [] → Said m nd x
  none_sent x i = absurd (Memᴰ.not-nil i)

  turns : (b : Board) → Fine b → (k : ℕ) (w : Node) → k < nodes m → Turn (linked m) (at b) k w → (i : ℕ) → Turn (linked m) (at b) i (at (put b k w) i)
  turns b f k w l t i = ⊎_elim
      (λ e. rw (e, at-put b k w (let s = m.most in let g = f.long in omega arith)) t)
      (λ d. rw (at_other b k i w d) (stays (linked m) (at b) f.nodes i))
      (cases_eq i k)

  -- one node makes a lawful turn
  pub keeps_put : (b : Board) → Fine b → (k : ℕ) (w : Node) → k < nodes m → Turn (linked m) (at b) k w → Keeps b (put b k w)
  keeps_put b f k w l t = record {
    fine = record { long = length-set (b) k w ∙ f.long; nodes = nodes_kept (linked m) (at b) (at (put b k w)) f.nodes (turns b f k w l t) };
    facts = fact_kept (linked m) (at b) (at (put b k w)) f.nodes (turns b f k w l t);
  }

  pub here : (b : Board) → Fine b → (k : ℕ) (w : Node) → k < nodes m → at (put b k w) k ≡ w
  here b f k w l = at-put b k w (let s = m.most in let g = f.long in omega arith)

  pub same_put : (b : Board) → Fine b → (k : ℕ) (w : Node) → k < nodes m → w.slot ≡ (at b k).slot → w.turn ≡ (at b k).turn → Same b (put b k w)
  same_put b f k w l es et = record {
    slot = λ i. ⊎_elim (λ e. ap (λ (j : ℕ). (at (put b k w) j).slot) e ∙ ap (λ (v : Node). v.slot) (here b f k w l) ∙ es ∙ ap (λ (j : ℕ). (at b j).slot) (sym e)) (λ d. ap (λ (v : Node). v.slot) (at_other b k i w d)) (cases_eq i k);
    turn = λ i. ⊎_elim (λ e. ap (λ (j : ℕ). (at (put b k w) j).turn) e ∙ ap (λ (v : Node). v.turn) (here b f k w l) ∙ et ∙ ap (λ (j : ℕ). (at b j).turn) (sym e)) (λ d. ap (λ (v : Node). v.turn) (at_other b k i w d)) (cases_eq i k);
  }

  same_trans : (b c d : Board) → Same b c → Same c d → Same b d
  same_trans b c d p q = record { slot = λ k. q.slot k ∙ p.slot k; turn = λ k. q.turn k ∙ p.turn k }

  settles_after : (b c d : Board) (k : ℕ) → Same b c → Settles c d k → Settles b d k
  settles_after b c d k p q = record {
    inside = q.inside;
    before = sym (p.slot k) ∙ q.before;
    here = q.here ∙ ap (λ (f : ℕ → ℕ). least (contend m) (nodes m) f k) (fun_ext p.slot);
    after = q.after;
    place = q.place ∙ ap suc (count_same (nodes m) b c p);
    others = λ i n. ((q.others i n).0 ∙ p.slot i, (q.others i n).1 ∙ p.turn i);
  }

  -- a quiet step, and then a good one
  pub good_after : (b c : Board) {A : Type 0} (a : After A) → Keeps b c → Same b c → Good c a → Good b a
  good_after b c a k s g = record {
    keeps = record { fine = g.keeps.fine; facts = λ x h. g.keeps.facts x (k.facts x h) };
    sent = g.sent;
    moved = ⊎_elim (λ q. inl (same_trans b c a.board s q)) (λ (i, q). inr (i, settles_after b c a.board i s q)) g.moved;
  }

  pub good_stay : (b : Board) {A : Type 0} (a : After A) → Fine b → a.board ≡ b → ((x : Message) → In x a.sent → Said m (at b) x) → Good b a
  good_stay b a f e s = record {
    keeps = rw e (keeps_self b f);
    sent = λ x i. rw e (s x i);
    moved = inl (rw e (same_self b));
  }

  pub good_refused : (b : Board) → Fine b → {A : Type 0} (e : Refusal) → Good {A = A} b (refused b e)
  good_refused b f e = good_stay b _ f refl none_sent

  pub one_sent : (b : Board) (y : Message) → Said m (at b) y → (x : Message) → In x (y ∷ []) → Said m (at b) x
  one_sent b y h x i = rw (Memᴰ.eq_of_singleton i) h
