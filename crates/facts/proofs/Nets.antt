-- What the calls of a rig come to, by the net of its map: with a net that is written out, it computes.
use Rattle.std.proofs.Common.{◌≡◌, ℕ, suc, ◌+◌, ◌/◌, ◌%◌, Bool, cond, not, ◌&&◌, ◌||◌, eqb, ltb, List, [], ◌∷◌, Some, None, Ok, Option, ap}
use Rattle.marks.specs.Below.{some_below, count_below}
use Rattle.marks.specs.View.{marked}
use Rattle.refusal.specs.declared.Refusal.TheVariants.{Node as NoNode, Settled, Busy, Spent, Foreign}
use Rattle.map.specs.declared.Map.{Map}
use Rattle.map.specs.View.{Net, net}
use Rattle.radio.specs.declared.kind.Kind.{Kind}
use Rattle.radio.specs.declared.kind.Kind.TheVariants.{Grant as GrantKind, Reject as RejectKind, Release as ReleaseKind, Fail as FailKind}
use Rattle.radio.specs.declared.message.Message.{Message}
use Rattle.rig.specs.declared.Lottery.{Lottery}
use Rattle.rig.specs.declared.Lottery.TheVariants.{Lost, Asked, Decided}
use Rattle.rig.specs.Calm.{at, is_request, is_grant}
use Rattle.rig.specs.Board.{Board, put, decided_count, each}
use Rattle.rig.specs.Steps.{After, refused, request, release, fail, asking, decided, lowest, waits, slot_for, gave_up, drawn, sends, on_request, counts, frees, hears, delivered}

module _ (n : Net) where
  abbrev pub contend_of : ℕ → ℕ → Bool
  contend_of a b = not (eqb a b) && (n.links a b || some_below (λ k. n.links a k && n.links k b) n.size)

-- definitions that take a map without looking at it are given the map m
module _ (m : Map) (n : Net) where
  abbrev pub to_all_of : ℕ → (ℕ → Message) → List Message
  to_all_of k f = each (n.links k) f n.size

  abbrev pub fail_all_of : Board → ℕ → List Message
  fail_all_of b k = to_all_of k (fail (at b k).round k)

  abbrev pub settled_of : Board → ℕ → Board
  settled_of b k = cond (ltb (lowest (at b k).taken) 64) (put b k (decided (at b k) (slot_for m b k) (suc (decided_count n.size b)))) (gave_up m b k)

  abbrev pub settled_sent_of : Board → ℕ → List Message
  settled_sent_of b k = cond (ltb (lowest (at b k).taken) 64) (to_all_of k (release (slot_for m b k) (at b k).round k)) (fail_all_of b k)

  abbrev pub wins_of : ℕ → ℕ → Bool
  wins_of k v = eqb (v % 2) 1 && eqb (v / 2 % (count_below (contend_of n k) n.size + 1)) 0

  abbrev pub won_of : Board → ℕ → After Lottery
  won_of b k =
      cond (some_below (n.links k) n.size)
      (record { board = put b k (asking (at b k)); sent = to_all_of k (request ((at b k).round + 1) k); answer = Ok Asked })
      (record { board = settled_of (put b k (asking (at b k))) k; sent = settled_sent_of (put b k (asking (at b k))) k; answer = Ok Decided })

  abbrev pub drawn_of : Board → ℕ → ℕ → After Lottery
  drawn_of b k v =
      cond (ltb k n.size)
      (cond (eqb (at b k).slot 0)
      (cond (is_request (at b k).phase || is_grant (at b k).phase) (refused b Busy)
      (cond (eqb (at b k).round 65535) (refused b Spent)
      (cond (wins_of k v) (won_of b k) (record { board = b; sent = []; answer = Ok Lost }))))
      (refused b Settled))
      (refused b NoNode)

  abbrev pub foreign_of : Message → Bool
  foreign_of x =
      (eqb x.kind 0 || ltb 5 x.kind)
      || (not (n.links x.sender x.receiver) || (eqb x.kind 4 && (eqb x.slot 0 || ltb 64 x.slot)))

  abbrev pub complete_of : Board → ℕ → Bool
  complete_of b k = not (some_below (λ j. n.links k j && not (marked (at b k).granted j)) n.size)

  abbrev pub on_grant_of : Board → Message → After (Option Kind)
  on_grant_of b x =
      cond (waits (at b x.receiver) x.round)
      (cond (complete_of (counts m b x) x.receiver) (sends m (settled_of (counts m b x) x.receiver) (settled_sent_of (counts m b x) x.receiver) GrantKind) (sends m (counts m b x) [] GrantKind))
      (cond (not (eqb (at b x.receiver).slot 0) && eqb (at b x.receiver).dated x.round)
      (sends m b (release (at b x.receiver).slot x.round x.receiver x.sender ∷ []) GrantKind)
      (sends m b (fail x.round x.receiver x.sender ∷ []) GrantKind))

  abbrev pub on_reject_of : Board → Message → After (Option Kind)
  on_reject_of b x = cond (waits (at b x.receiver) x.round) (sends m (gave_up m b x.receiver) (fail_all_of b x.receiver) RejectKind) (sends m b [] RejectKind)

  abbrev pub received_of : Board → Message → After (Option Kind)
  received_of b x =
      cond (foreign_of x) (refused b Foreign)
      (cond (eqb x.kind 1) (on_request m b x (at b x.receiver).phase)
      (cond (eqb x.kind 2) (on_grant_of b x)
      (cond (eqb x.kind 3) (on_reject_of b x)
      (cond (eqb x.kind 4) (sends m (frees m (hears m b x) x) [] ReleaseKind) (sends m (frees m b x) [] FailKind)))))

  abbrev pub delivered_of : Board → Option Message → After (Option Kind)
  delivered_of b None = record { board = b; sent = []; answer = Ok None }
  delivered_of b (Some x) = received_of b x

module _ (m : Map) (n : Net) (e : net m ≡ n) where
  pub drawn-of : (b : Board) (k v : ℕ) → drawn m b k v ≡ drawn_of m n b k v
  drawn-of b k v = ap (λ (x : Net). drawn_of m x b k v) e

  pub received-of : (b : Board) (x : Message) → delivered m b (Some x) ≡ received_of m n b x
  received-of b x = ap (λ (y : Net). received_of m y b x) e

  pub delivered-of : (b : Board) (o : Option Message) → delivered m b o ≡ delivered_of m n b o
  delivered-of b o = ap (λ (y : Net). delivered_of m y b o) e
