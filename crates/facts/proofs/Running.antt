-- Two linked nodes that both ask, as a run over the rack queue.
use Rattle.std.proofs.Common.{◌≡◌, ℕ, List, [], ◌∷◌, ◌++◌, Option, Some, None, refl, ap, ◌∙◌, subst}
use Rattle.map.specs.View.{Net, net}
use Rattle.map.specs.declared.Map.{Map}
use Rattle.radio.specs.declared.kind.Kind.{Kind}
use Rattle.radio.specs.declared.kind.Kind.TheVariants.{Request as RequestKind, Reject as RejectKind, Fail as FailKind}
use Rattle.radio.specs.Ways.{puts}
use Rattle.radio.specs.Queue.{queue_ways}
use Rattle.radio.specs.declared.message.Message.{Message}
use Rattle.rig.specs.Calm.{blank}
use Rattle.rig.specs.Board.{Board, new_board, each}
use Rattle.rig.specs.Steps.{After, request, reject, fail}
use Rattle.rig.specs.declared.Lottery.{Lottery}
use Rattle.law.specs.declared.Call.{Call}
use Rattle.law.specs.declared.Call.TheVariants.{Draw, Deliver}
use Rattle.law.specs.declared.Answer.{Answer}
use Rattle.law.specs.declared.Answer.TheVariants.{Drawn, Delivered}
use Rattle.law.specs.Runs.{Calls, none, more, Run, decides, deciders}
use Rattle.benches.specs.Paths.{path}
use Rattle.facts.specs.Ruled.{both_calls, both_answers}
use Rattle.facts.proofs.Nets.{drawn_of, delivered_of, drawn-of, delivered-of}
use Rattle.facts.proofs.Meeting.{two, asked, gave, draws, answers, draw_0, draw_1, request_1, request_0, reject_0, reject_1, fail_1, fail_0, nothing}

module _ (m : Map) (is : net m ≡ path 2) where
  -- calls of a new rig over an empty queue, in which nobody decides
  abbrev Leads : List Call → List Answer → Board → List Message → Type 0
  Leads calls told b s = Calls queue_ways m new_board [] calls told [] b s

  undecided : (b b' : Board) → each (decides b b') (λ k. k) 2 ≡ [] → deciders m b b' ≡ []
  undecided b b' e = ap (λ (n : Net). each (decides b b') (λ k. k) n.size) is ∙ e

  drew : {calls : List Call} {told : List Answer} {b : Board} {s : List Message} → Leads calls told b s → (k v : ℕ) (a : After Lottery)
      → drawn_of m (path 2) b k v ≡ a → each (decides b a.board) (λ i. i) 2 ≡ []
      → Leads (calls ++ (Draw k v ∷ [])) (told ++ (Drawn a.answer ∷ [])) a.board (puts queue_ways s a.sent)
  drew {calls} {told} {b} {s} h k v a e d =
      subst (λ (o : List ℕ). Calls queue_ways m new_board [] (calls ++ (Draw k v ∷ [])) (told ++ (Drawn a.answer ∷ [])) o a.board (puts queue_ways s a.sent))
      (undecided b a.board d)
      (subst (λ (x : After Lottery). Calls queue_ways m new_board [] (calls ++ (Draw k v ∷ [])) (told ++ (Drawn x.answer ∷ [])) (deciders m b x.board) x.board (puts queue_ways s x.sent))
      (drawn-of m (path 2) is b k v ∙ e) (more h (Draw k v)))

  came : {calls : List Call} {told : List Answer} {b : Board} {s : List Message} → Leads calls told b s → (a : After (Option Kind))
      → delivered_of m (path 2) b (queue_ways.taken s) ≡ a → each (decides b a.board) (λ i. i) 2 ≡ []
      → Leads (calls ++ (Deliver ∷ [])) (told ++ (Delivered a.answer ∷ [])) a.board (puts queue_ways (queue_ways.after_take s) a.sent)
  came {calls} {told} {b} {s} h a e d =
      subst (λ (o : List ℕ). Calls queue_ways m new_board [] (calls ++ (Deliver ∷ [])) (told ++ (Delivered a.answer ∷ [])) o a.board (puts queue_ways (queue_ways.after_take s) a.sent))
      (undecided b a.board d)
      (subst (λ (x : After (Option Kind)). Calls queue_ways m new_board [] (calls ++ (Deliver ∷ [])) (told ++ (Delivered x.answer ∷ [])) (deciders m b x.board) x.board (puts queue_ways (queue_ways.after_take s) x.sent))
      (delivered-of m (path 2) is b (queue_ways.taken s) ∙ e) (more h Deliver))

  pub meeting : Run queue_ways m both_calls both_answers [] (two gave gave) []
  unfolding each
  meeting =
      let s₁ = drew none 0 1 (draws asked blank (request 1 0 1)) (draw_0 m) refl in
      let s₂ = drew s₁ 1 1 (draws asked asked (request 1 1 0)) (draw_1 m) refl in
      let s₃ = came s₂ (answers asked asked (reject 1 1 0 ∷ []) (Some RequestKind)) (request_1 m) refl in
      let s₄ = came s₃ (answers asked asked (reject 1 0 1 ∷ []) (Some RequestKind)) (request_0 m) refl in
      let s₅ = came s₄ (answers gave asked (fail 1 0 1 ∷ []) (Some RejectKind)) (reject_0 m) refl in
      let s₆ = came s₅ (answers gave gave (fail 1 1 0 ∷ []) (Some RejectKind)) (reject_1 m) refl in
      let s₇ = came s₆ (answers gave gave [] (Some FailKind)) (fail_1 m) refl in
      let s₈ = came s₇ (answers gave gave [] (Some FailKind)) (fail_0 m) refl in
      let s₉ = came s₈ (answers gave gave [] None) (nothing m) refl in
      record { start = []; empty = refl; made = s₉ }
