-- A draw keeps the invariant.
use Rattle.std.proofs.Common.{◌≡◌, ℕ, ◌+◌, ◌<◌, false, ◌||◌, eqb, ltb, Ok, refl, ap, ◌∙◌, inl, arith}
use Rattle.std.proofs.lemmas.Bool.{both_ways, or_parts, eqb-true, eqb-false, ltb-true, cond_both}
use Rattle.marks.specs.Below.{some_below}
use Rattle.map.specs.View.{linked, nodes}
use Rattle.map.specs.declared.Map.{Map}
use Rattle.schedule.proofs.Slots.{some_at}
use Rattle.rig.specs.declared.Lottery.TheVariants.{Asked, Decided}
use Rattle.rig.specs.declared.node.Node.{Node}
use Rattle.rig.specs.declared.node.Phase.TheVariants.{Grant}
use Rattle.rig.specs.Calm.{at, is_request, is_grant}
use Rattle.rig.specs.Board.{Board, put}
use Rattle.rig.specs.Steps.{asking, to_all, settled, settled_sent, wins, won, drawn, request}
use Rattle.law.proofs.Moves.{asks}
use Rattle.law.proofs.Sends.{each_in, request_true}
use Rattle.law.proofs.Boards.{Same, Fine, Keeps, Good, keeps_put, here, same_put, good_after, good_stay, good_refused, none_sent}
use Rattle.law.proofs.Decide.{good_settle}

module _ (m : Map) (b : Board) (f : Fine m b) where
  good_won : (k : ℕ) → k < nodes m → (at b k).slot ≡ 0 → ((at b k).round ≡ 65535 → ⊥) → ((at b k).phase ≡ Grant → ⊥) → Good m b (won m b k)
  good_won k l e last g = cond_both (some_below (linked m k) (nodes m)) _ _ (Good m b) (λ _. ask) lone
    where
      kept : Keeps m b (put b k (asking (at b k)))
      kept = keeps_put m b f k (asking (at b k)) l (asks (linked m) (at b) f.nodes k e last g)

      same : Same b (put b k (asking (at b k)))
      same = same_put m b f k (asking (at b k)) l refl refl

      at_k : at (put b k (asking (at b k))) k ≡ asking (at b k)
      at_k = here m b f k (asking (at b k)) l

      ask : Good m b (record { board = put b k (asking (at b k)); sent = to_all m k (request ((at b k).round + 1) k); answer = Ok Asked })
      ask = record {
        keeps = kept;
        sent = λ x i.
            let (j, near, d) = each_in (linked m k) (request ((at b k).round + 1) k) (nodes m) x i in
            rw d
            (request_true m (at (put b k (asking (at b k)))) ((at b k).round + 1) k j near (let r = ap (λ (v : Node). v.round) at_k in omega arith));
        moved = inl same;
      }

      lone : some_below (linked m k) (nodes m) ≡ false → Good m b (record { board = settled m (put b k (asking (at b k))) k; sent = settled_sent m (put b k (asking (at b k))) k; answer = Ok Decided })
      lone h =
          good_after m b (put b k (asking (at b k))) _ kept same
          (good_settle m (put b k (asking (at b k))) kept.fine k l (ap (λ (v : Node). v.phase) at_k)
          (λ c q. absurd (both_ways (some_below (linked m k) (nodes m)) h (some_at (linked m k) (nodes m) c (m.within c k (m.both c k ∙ q)) q))) (Ok Decided))

  pub good_drawn : (k v : ℕ) → Good m b (drawn m b k v)
  good_drawn k v =
      cond_both (ltb k (nodes m)) _ _ (Good m b)
      (λ l. cond_both (eqb (at b k).slot 0) _ _ (Good m b)
      (λ e. cond_both (is_request (at b k).phase || is_grant (at b k).phase) _ _ (Good m b) (λ _. good_refused m b f _)
      (λ q. cond_both (eqb (at b k).round 65535) _ _ (Good m b) (λ _. good_refused m b f _)
      (λ n. cond_both (wins m k v) _ _ (Good m b)
      (λ _. good_won k (ltb-true k (nodes m) l) (eqb-true (at b k).slot 0 e) (eqb-false (at b k).round 65535 n) (λ g. both_ways (is_grant (at b k).phase) (or_parts (is_request (at b k).phase) (is_grant (at b k).phase) q).1 (ap is_grant g)))
      (λ _. good_stay m b _ f refl (none_sent m)))))
      (λ _. good_refused m b f _))
      (λ _. good_refused m b f _)
