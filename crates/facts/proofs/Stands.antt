-- How a rig over the rack queue stands, call after call.
use Rattle.std.proofs.Common.{◌≡◌, ℕ, Bool, true, cond, ltb, List, [], ◌∷◌, Option, Ok, Err, Result, ap, ◌∙◌, ap₂}
use Rattle.refusal.specs.declared.Refusal.{Refusal}
use Rattle.refusal.specs.declared.Refusal.TheVariants.{Node as NoNode}
use Rattle.map.specs.View.{Net, net}
use Rattle.radio.specs.declared.kind.Kind.{Kind}
use Rattle.radio.specs.Ways.{puts}
use Rattle.radio.specs.Queue.{queue_ways}
use Rattle.radio.specs.declared.message.Message.{Message}
use Rattle.rig.specs.declared.Rig.{Rig}
use Rattle.rig.specs.declared.Lottery.{Lottery}
use Rattle.rig.specs.Board.{Board}
use Rattle.rig.specs.Made.{Made}
use Rattle.rig.specs.Steps.{After, drawn, delivered}
use Rattle.rig.specs.Questions.{told}
use Rattle.rig.specs.Calm.{at}
use Rattle.rig.specs.declared.node.Node.{Node}
use Rattle.facts.proofs.Nets.{drawn_of, delivered_of, drawn-of, delivered-of}

-- a rig on a map with the net n, its nodes b; over a queue with the messages s
pub record Stands (n : Net) (b : Board) (s : List Message) (rig : Rig) (q : List Message) : Type 0 where
  pub map : net rig.map ≡ n
  pub nodes : rig.nodes ≡ b
  pub radio : q ≡ s

-- a call with the outcome a answered r, and left the rig so over a queue with the messages s
pub record Did {A : Type 0} (n : Net) (a : After A) (s : List Message) (r : Result A Refusal) (rig : Rig) (q : List Message) : Type 0 where
  pub stands : Stands n a.board s rig q
  pub answer : r ≡ a.answer

-- another queue over the same rig
pub over : {n : Net} {b : Board} {s s' q q' : List Message} {rig : Rig} → Stands n b s rig q → q' ≡ s' → Stands n b s' rig q'
over h e = record { map = h.map; nodes = h.nodes; radio = e }

-- the call whose outcome is written out as a, from there
module _ {n : Net} {b : Board} {s q : List Message} {rig : Rig} (h : Stands n b s rig q) where
  pub draw_is : (k v : ℕ) (a : After Lottery) → drawn_of rig.map n b k v ≡ a → drawn rig.map rig.nodes k v ≡ a
  draw_is k v a e = ap (λ (x : Board). drawn rig.map x k v) h.nodes ∙ drawn-of rig.map n h.map b k v ∙ e

  pub draw_answers : (k v : ℕ) (a : After Lottery) → drawn_of rig.map n b k v ≡ a → (r : Result Lottery Refusal) → r ≡ (drawn rig.map rig.nodes k v).answer → r ≡ a.answer
  draw_answers k v a e r is = is ∙ ap (λ (x : After Lottery). x.answer) (draw_is k v a e)

  pub drew : {rig' : Rig} {q' : List Message} {r : Result Lottery Refusal} {a : After Lottery} (k v : ℕ) → drawn_of rig.map n b k v ≡ a
      → r ≡ (drawn rig.map rig.nodes k v).answer → Made queue_ways rig rig' q q' (drawn rig.map rig.nodes k v).board (drawn rig.map rig.nodes k v).sent
      → Did n a (puts queue_ways s a.sent) r rig' q'
  drew {r = r} {a = a} k v e value made =
      let is = draw_is k v a e in
      record {
        stands = record {
          map = ap net made.map ∙ h.map;
          nodes = made.nodes ∙ ap (λ (x : After Lottery). x.board) is;
          radio = made.radio ∙ ap₂ (λ (x : List Message) (y : After Lottery). puts queue_ways x y.sent) h.radio is;
        };
        answer = draw_answers k v a e r value;
      }

  pub delivery_is : (a : After (Option Kind)) → delivered_of rig.map n b (queue_ways.taken s) ≡ a → delivered rig.map rig.nodes (queue_ways.taken q) ≡ a
  delivery_is a e =
      ap₂ (λ (x : Board) (y : List Message). delivered rig.map x (queue_ways.taken y)) h.nodes h.radio
      ∙ delivered-of rig.map n h.map b (queue_ways.taken s) ∙ e

  pub delivery_answers : (a : After (Option Kind)) → delivered_of rig.map n b (queue_ways.taken s) ≡ a → (r : Result (Option Kind) Refusal)
      → r ≡ (delivered rig.map rig.nodes (queue_ways.taken q)).answer → r ≡ a.answer
  delivery_answers a e r is = is ∙ ap (λ (x : After (Option Kind)). x.answer) (delivery_is a e)

  pub came : {rig' : Rig} {q' : List Message} {r : Result (Option Kind) Refusal} {a : After (Option Kind)} → delivered_of rig.map n b (queue_ways.taken s) ≡ a
      → r ≡ (delivered rig.map rig.nodes (queue_ways.taken q)).answer
      → Made queue_ways rig rig' (queue_ways.after_take q) q' (delivered rig.map rig.nodes (queue_ways.taken q)).board (delivered rig.map rig.nodes (queue_ways.taken q)).sent
      → Did n a (puts queue_ways (queue_ways.after_take s) a.sent) r rig' q'
  came {r = r} {a = a} e value made =
      let is = delivery_is a e in
      record {
        stands = record {
          map = ap net made.map ∙ h.map;
          nodes = made.nodes ∙ ap (λ (x : After (Option Kind)). x.board) is;
          radio = made.radio ∙ ap₂ (λ (x : List Message) (y : After (Option Kind)). puts queue_ways (queue_ways.after_take x) y.sent) h.radio is;
        };
        answer = delivery_answers a e r value;
      }

  -- what is told of a node below the size
  pub told_is : {A : Type 0} (k : ℕ) (f : Node → A) (r : Result A Refusal) → ltb k n.size ≡ true → r ≡ told rig k f → r ≡ Ok (f (at b k))
  told_is {A} k f r l e =
      e ∙ ap₂ (λ (x : Net) (y : Board). cond (ltb k x.size) (Ok (f (at y k))) (Err NoNode)) h.map h.nodes
      ∙ ap (λ (x : Bool). cond x (Ok (f (at b k))) (Err NoNode)) l

-- one message put into an empty queue
pub put_alone : {q q' : List Message} {x y : Message} → q ≡ [] → x ≡ y → q' ≡ queue_ways.after_put q x → q' ≡ y ∷ []
put_alone e is made = made ∙ ap₂ (λ (p : List Message) (z : Message). queue_ways.after_put p z) e is
