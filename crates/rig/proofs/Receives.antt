-- What the steps of a receiver come to, as the rules say it.
use Rattle.std.proofs.Common.{◌≡◌, ◌<◌, Bool, true, false, cond, not, eqb, [], sym, refl, ap, ◌∙◌, arith}
use Rattle.std.proofs.lemmas.Bool.{cond-true, cond-false, eq-eqb, ne_eqb}
use Rattle.std.proofs.lemmas.List.{set-get_or, set-set}
use Rattle.marks.specs.Below.{some_below}
use Rattle.map.specs.declared.Map.{Map}
use Rattle.map.specs.View.{nodes}
use Rattle.radio.specs.declared.kind.Kind.TheVariants.{Grant as GrantKind, Release as ReleaseKind, Fail as FailKind}
use Rattle.radio.specs.declared.message.Message.{Message}
use Rattle.radio.specs.Ways.{Ways, puts}
use Rattle.rig.specs.declared.Rig.{Rig}
use Rattle.rig.specs.declared.node.Node.{Node}
use Rattle.rig.specs.Calm.{blank, at}
use Rattle.rig.specs.Board.{Board, put}
use Rattle.rig.specs.Made.{Made}
use Rattle.rig.specs.Steps.{After, sends, counted, freed, hearing, waits, serves, lacks, settled, settled_sent, complete, counts, on_grant, frees, hears, foreign, received}
use Rattle.rig.proofs.Calms.{at-put}

-- the nodes and the messages are those of a step that is said otherwise
pub made_is : {A S : Type 0} (w : Ways S) (rig rig' : Rig) (s s' : S) (a b : After A) → a ≡ b → rig'.map ≡ rig.map → rig'.nodes ≡ b.board → s' ≡ puts w s b.sent
    → Made w rig rig' s s' a.board a.sent
made_is w rig rig' s s' a b e em en es =
    record { map = em; nodes = en ∙ ap (λ x. x.board) (sym e); radio = es ∙ ap (λ x. puts w s x.sent) (sym e) }

-- a grant is counted, and v is the node then

module _ {S : Type 0} (w : Ways S) (rig rig' : Rig) (s s' : S) (x : Message) (v : Node) (l : x.receiver < 64) (t : waits (at rig.nodes x.receiver) x.round ≡ true)
    (q : v ≡ counted (at rig.nodes x.receiver) x.sender x.slots) where
  counts_is : put rig.nodes x.receiver v ≡ counts rig.map rig.nodes x
  counts_is = ap (put rig.nodes x.receiver) q

  complete_is : (r : Bool) → not (some_below (lacks rig.map v.granted x.receiver) (nodes rig.map)) ≡ r → complete rig.map (counts rig.map rig.nodes x) x.receiver ≡ r
  complete_is r e =
      let full = rig.full in
      ap (λ (u : Node). not (some_below (lacks rig.map u.granted x.receiver) (nodes rig.map)))
      (at-put rig.nodes x.receiver (counted (at rig.nodes x.receiver) x.sender x.slots) (omega arith) ∙ sym q)
      ∙ e

  pub grant_settles : not (some_below (lacks rig.map v.granted x.receiver) (nodes rig.map)) ≡ true
      → rig'.map ≡ rig.map → rig'.nodes ≡ settled rig.map (put rig.nodes x.receiver v) x.receiver → s' ≡ puts w s (settled_sent rig.map (put rig.nodes x.receiver v) x.receiver)
      → Made w rig rig' s s' (on_grant rig.map rig.nodes x).board (on_grant rig.map rig.nodes x).sent
  grant_settles e em en es =
      let c = counts rig.map rig.nodes x in
      made_is w rig rig' s s' (on_grant rig.map rig.nodes x) (sends rig.map (settled rig.map c x.receiver) (settled_sent rig.map c x.receiver) GrantKind)
      (cond-true (waits (at rig.nodes x.receiver) x.round) _ _ t ∙ cond-true (complete rig.map c x.receiver) _ _ (complete_is true e))
      em (en ∙ ap (λ (b : Board). settled rig.map b x.receiver) counts_is) (es ∙ ap (λ (b : Board). puts w s (settled_sent rig.map b x.receiver)) counts_is)

  pub grant_counts : not (some_below (lacks rig.map v.granted x.receiver) (nodes rig.map)) ≡ false
      → rig'.map ≡ rig.map → rig'.nodes ≡ put rig.nodes x.receiver v → s' ≡ s
      → Made w rig rig' s s' (on_grant rig.map rig.nodes x).board (on_grant rig.map rig.nodes x).sent
  grant_counts e em en es =
      let c = counts rig.map rig.nodes x in
      made_is w rig rig' s s' (on_grant rig.map rig.nodes x) (sends rig.map c [] GrantKind)
      (cond-true (waits (at rig.nodes x.receiver) x.round) _ _ t ∙ cond-false (complete rig.map c x.receiver) _ _ (complete_is false e))
      em (en ∙ counts_is) es

-- a node freed, or not

abbrev freed_by : Node → Message → Node
freed_by v x = cond (serves v x.sender x.round) (freed v) v

frees_is : (m : Map) (b : Board) (x : Message) (v : Node) → at b x.receiver ≡ v → put b x.receiver (freed_by v x) ≡ frees m b x
frees_is m b x v e = ap (λ (u : Node). put b x.receiver (freed_by u x)) (sym e) ∙ go (serves (at b x.receiver) x.sender x.round)
  where
    go : (t : Bool) → put b x.receiver (cond t (freed (at b x.receiver)) (at b x.receiver)) ≡ cond t (put b x.receiver (freed (at b x.receiver))) b
    go true = refl
    go false = set-get_or b x.receiver blank

module _ {S : Type 0} (w : Ways S) (rig rig' : Rig) (s s' : S) (x : Message) (known : foreign rig.map x ≡ false) (v : Node) where
  pub release_frees : x.kind ≡ 4 → x.receiver < 64 → v ≡ freed_by (hearing (at rig.nodes x.receiver) x.slot) x
      → rig'.map ≡ rig.map → rig'.nodes ≡ put rig.nodes x.receiver v → s' ≡ s
      → Made w rig rig' s s' (received rig.map rig.nodes x).board (received rig.map rig.nodes x).sent
  release_frees e l q em en es =
      let b = rig.nodes in
      let h = hearing (at b x.receiver) x.slot in
      let full = rig.full in
      made_is w rig rig' s s' (received rig.map b x) (sends rig.map (frees rig.map (hears rig.map b x) x) [] ReleaseKind)
      (cond-false (foreign rig.map x) _ _ known ∙ cond-false (eqb x.kind 1) _ _ (ne_eqb x.kind 1 (λ z. omega arith))
      ∙ cond-false (eqb x.kind 2) _ _ (ne_eqb x.kind 2 (λ z. omega arith)) ∙ cond-false (eqb x.kind 3) _ _ (ne_eqb x.kind 3 (λ z. omega arith))
      ∙ cond-true (eqb x.kind 4) _ _ (eq-eqb x.kind 4 e))
      em
      (en ∙ ap (put b x.receiver) q ∙ sym (set-set b x.receiver h (freed_by h x)) ∙ frees_is rig.map (put b x.receiver h) x h (at-put b x.receiver h (omega arith)))
      es

  pub fail_frees : x.kind ≡ 5 → v ≡ freed_by (at rig.nodes x.receiver) x
      → rig'.map ≡ rig.map → rig'.nodes ≡ put rig.nodes x.receiver v → s' ≡ s
      → Made w rig rig' s s' (received rig.map rig.nodes x).board (received rig.map rig.nodes x).sent
  fail_frees e q em en es =
      let b = rig.nodes in
      made_is w rig rig' s s' (received rig.map b x) (sends rig.map (frees rig.map b x) [] FailKind)
      (cond-false (foreign rig.map x) _ _ known ∙ cond-false (eqb x.kind 1) _ _ (ne_eqb x.kind 1 (λ z. omega arith))
      ∙ cond-false (eqb x.kind 2) _ _ (ne_eqb x.kind 2 (λ z. omega arith)) ∙ cond-false (eqb x.kind 3) _ _ (ne_eqb x.kind 3 (λ z. omega arith))
      ∙ cond-false (eqb x.kind 4) _ _ (ne_eqb x.kind 4 (λ z. omega arith)))
      em (en ∙ ap (put b x.receiver) q ∙ frees_is rig.map b x (at b x.receiver) refl) es
