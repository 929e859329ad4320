-- What each call answers, what it makes of the nodes, and what it sends, in order.
use Rattle.std.specs.Prelude.{◌≡◌, ℕ, false, true, MatchResult, suc, ◌+◌, ◌-◌, ◌/◌, ◌%◌, Bool, cond, not, ◌&&◌, ◌||◌, List, [], ◌∷◌, length, Some, None, Ok, Err, Option, Result, ◌==◌, nat_lt}
use Rattle.marks.specs.declared.Marks.{Marks}
use Rattle.marks.specs.Below.{some_below}
use Rattle.marks.specs.Sets.{none, added, joined}
use Rattle.marks.specs.View.{marked}
use Rattle.refusal.specs.declared.Refusal.{Refusal}
use Rattle.refusal.specs.declared.Refusal.TheVariants.{Node as NoNode, Settled, Busy, Spent, Quiet, Foreign}
use Rattle.map.specs.declared.Map.{Map}
use Rattle.map.specs.View.{nodes, linked, contender_count}
use Rattle.radio.specs.declared.kind.Kind.{Kind}
use Rattle.radio.specs.declared.kind.Kind.TheVariants.{Request as RequestKind, Grant as GrantKind, Reject as RejectKind, Release as ReleaseKind, Fail as FailKind}
use Rattle.radio.specs.declared.message.Message.{Message}
use Rattle.radio.specs.Kinds.{kind_number}
use Rattle.schedule.specs.Rand.{first_from}
use Rattle.rig.specs.declared.delivery.Delivery.{Delivery}
use Rattle.rig.specs.declared.node.Node.{Node}
use Rattle.rig.specs.declared.node.Phase.{Phase}
use Rattle.rig.specs.declared.node.Phase.TheVariants.{Idle, Request, Grant, Release}
use Rattle.rig.specs.declared.Lottery.{Lottery}
use Rattle.rig.specs.declared.Lottery.TheVariants.{Lost, Asked, Decided}
use Rattle.rig.specs.Calm.{at, is_request, is_grant}
use Rattle.rig.specs.Board.{Board, put, decided_count, each}

-- the nodes after a call, the messages that it sent, and its answer
pub record After (A : Type 0) : Type 0 where
  pub board : Board
  pub sent : List Message
  pub answer : Result A Refusal

abbrev pub refused : {A : Type 0} → Board → Refusal → After A
refused b e = record { board = b; sent = []; answer = Err e }

-- the number by which the rules list what came of a draw
abbrev pub lottery_number : Lottery → ℕ
lottery_number Lost = 0
lottery_number Asked = 1
lottery_number Decided = 2

-- the five messages, from a to b

abbrev pub plain : ℕ → ℕ → ℕ → ℕ → ℕ → Message
plain kind round slot a b = record { kind = kind; sender = a; receiver = b; round = round; slot = slot; slots = none }

abbrev pub request : ℕ → ℕ → ℕ → Message
request round a b = plain 1 round 0 a b

abbrev pub grant : Marks → ℕ → ℕ → ℕ → Message
grant slots round a b = record { kind = 2; sender = a; receiver = b; round = round; slot = 0; slots = slots }

abbrev pub reject : ℕ → ℕ → ℕ → Message
reject round a b = plain 3 round 0 a b

abbrev pub release : ℕ → ℕ → ℕ → ℕ → Message
release slot round a b = plain 4 round slot a b

abbrev pub fail : ℕ → ℕ → ℕ → Message
fail round a b = plain 5 round 0 a b

-- the message, to b
abbrev pub addressed : Message → ℕ → Message
addressed x b = record { kind = x.kind; sender = x.sender; receiver = b; round = x.round; slot = x.slot; slots = x.slots }

-- the slots that a grant holds: those heard, and the node's own if it has one
unfoldable pub offered : Node → Marks
offered v = cond (v.slot == 0) v.heard (added v.heard (v.slot - 1))

-- one node altered

-- a new round: nobody has granted, no slot is taken
abbrev pub asking : Node → Node
asking v = record { phase = Request; slot = v.slot; turn = v.turn; round = v.round + 1; dated = v.dated; granted = none; taken = none; heard = v.heard; holder = v.holder; term = v.term }

-- in grant for a and its round r
abbrev pub bound : Node → ℕ → ℕ → Node
bound v a r = record { phase = Grant; slot = v.slot; turn = v.turn; round = v.round; dated = v.dated; granted = v.granted; taken = v.taken; heard = v.heard; holder = a; term = r }

-- a has granted, with these slots taken
abbrev pub counted : Node → ℕ → Marks → Node
counted v a s = record { phase = v.phase; slot = v.slot; turn = v.turn; round = v.round; dated = v.dated; granted = added v.granted a; taken = joined v.taken s; heard = v.heard; holder = v.holder; term = v.term }

-- decided for a slot, at a turn, in its present round
abbrev pub decided : Node → ℕ → ℕ → Node
decided v slot turn = record { phase = Release; slot = slot; turn = turn; round = v.round; dated = v.round; granted = v.granted; taken = v.taken; heard = v.heard; holder = v.holder; term = v.term }

abbrev pub phased : Node → Phase → Node
phased v p = record { phase = p; slot = v.slot; turn = v.turn; round = v.round; dated = v.dated; granted = v.granted; taken = v.taken; heard = v.heard; holder = v.holder; term = v.term }

-- the slot is heard
abbrev pub hearing : Node → ℕ → Node
hearing v slot = record { phase = v.phase; slot = v.slot; turn = v.turn; round = v.round; dated = v.dated; granted = v.granted; taken = v.taken; heard = added v.heard (slot - 1); holder = v.holder; term = v.term }

-- freed: to release if it has a slot, else to idle
abbrev pub freed : Node → Node
freed v = phased v (cond (v.slot == 0) Idle Release)

-- in request, and the round is its own
abbrev pub waits : Node → ℕ → Bool
waits v r = is_request v.phase && r == v.round

-- in grant for just a and r
abbrev pub serves : Node → ℕ → ℕ → Bool
serves v a r = is_grant v.phase && (v.holder == a && v.term == r)

-- the smallest mark that is missing, or 64
unfoldable pub lowest : Marks → ℕ
lowest s = first_from (marked s) 0 64

module _ (m : Map) where
  -- one message to each neighbour of k, by rising number
  abbrev pub to_all : ℕ → (ℕ → Message) → List Message
  to_all k f = each (linked m k) f (nodes m)

  -- the neighbours of k that are not marked
  abbrev pub lacks : Marks → ℕ → ℕ → Bool
  lacks s k j = linked m k j && not (marked s j)

  -- node k gives its round up: it goes idle, and sends fail to all
  abbrev pub gave_up : Board → ℕ → Board
  gave_up b k = put b k (phased (at b k) Idle)

  abbrev pub fail_all : Board → ℕ → List Message
  fail_all b k = to_all k (fail (at b k).round k)

  -- the smallest slot that is not taken
  abbrev pub slot_for : Board → ℕ → ℕ
  slot_for b k = suc (lowest (at b k).taken)

  -- node k decides: it takes that slot, at the next turn, and sends release to all; if all 64 slots are taken, it gives up
  abbrev pub settled : Board → ℕ → Board
  settled b k = cond (nat_lt (lowest (at b k).taken) 64) (put b k (decided (at b k) (slot_for b k) (suc (decided_count (nodes m) b)))) (gave_up b k)

  abbrev pub settled_sent : Board → ℕ → List Message
  settled_sent b k = cond (nat_lt (lowest (at b k).taken) 64) (to_all k (release (slot_for b k) (at b k).round k)) (fail_all b k)

  -- draw

  -- the number is odd, and its half, rounded down, is 0 modulo one more than the contenders
  abbrev pub wins : ℕ → ℕ → Bool
  wins k v = v % 2 == 1 && v / 2 % (contender_count m k + 1) == 0

  -- a winner asks all, or decides where it has no neighbour
  abbrev pub won : Board → ℕ → After Lottery
  won b k =
      cond (some_below (linked m k) (nodes m))
      (record { board = put b k (asking (at b k)); sent = to_all k (request ((at b k).round + 1) k); answer = Ok Asked })
      (record { board = settled (put b k (asking (at b k))) k; sent = settled_sent (put b k (asking (at b k))) k; answer = Ok Decided })

  -- refusals 3, 8, 9 and 10, in this order; then the lottery
  abbrev pub drawn : Board → ℕ → ℕ → After Lottery
  drawn b k v =
      cond (nat_lt k (nodes m))
      (cond ((at b k).slot == 0)
      (cond (is_request (at b k).phase || is_grant (at b k).phase) (refused b Busy)
      (cond ((at b k).round == 65535) (refused b Spent)
      (cond (wins k v) (won b k) (record { board = b; sent = []; answer = Ok Lost }))))
      (refused b Settled))
      (refused b NoNode)

  -- nudge

  -- the neighbours of k that have not granted
  abbrev pub unmarked : Node → ℕ → ℕ → Bool
  unmarked v k j = lacks v.granted k j

  -- those that a node in request asks again
  abbrev pub asked_again : Board → ℕ → List Message
  asked_again b k = each (unmarked (at b k) k) (request (at b k).round k) (nodes m)

  -- a node in request asks again, one in grant sends its grant again; else 11
  abbrev pub nudges : Board → ℕ → Phase → After ℕ
  nudges b k Idle = refused b Quiet
  nudges b k Request = record { board = b; sent = asked_again b k; answer = Ok (length (asked_again b k)) }
  nudges b k Grant = record { board = b; sent = grant (offered (at b k)) (at b k).term k (at b k).holder ∷ []; answer = Ok 1 }
  nudges b k Release = refused b Quiet

  abbrev pub nudged : Board → ℕ → After ℕ
  nudged b k = cond (nat_lt k (nodes m)) (nudges b k (at b k).phase) (refused b NoNode)

  -- deliver: a message x, at its receiver

  -- the kind is not 1 to 5, the ends are no neighbours, or it is a release of a slot not 1 to 64
  abbrev pub foreign : Message → Bool
  foreign x =
      (x.kind == 0 || nat_lt 5 x.kind)
      || (not (linked m x.sender x.receiver) || (x.kind == 4 && (x.slot == 0 || nat_lt 64 x.slot)))

  -- the message with its kind, if it is not foreign, or else Foreign
  abbrev pub Accepts : Message → Result Delivery Refusal → Type 0
  Accepts x r = MatchResult r (λ d. (d.message ≡ x) × (kind_number d.kind ≡ x.kind) × (foreign x ≡ false)) (λ e. (e ≡ Foreign) × (foreign x ≡ true))

  -- what a message of this kind makes: these nodes, these messages, and the kind as the answer
  abbrev pub sends : Board → List Message → Kind → After (Option Kind)
  sends b out kind = record { board = b; sent = out; answer = Ok (Some kind) }

  -- the receiver's grant to the sender, and its reject
  abbrev pub grant_to : Board → Message → Message
  grant_to b x = grant (offered (at b x.receiver)) x.round x.receiver x.sender

  abbrev pub reject_to : Message → Message
  reject_to x = reject x.round x.receiver x.sender

  abbrev pub granting : Board → Message → After (Option Kind)
  granting b x = sends (put b x.receiver (bound (at b x.receiver) x.sender x.round)) (grant_to b x ∷ []) RequestKind

  -- idle or in release: goes to grant; in grant for just this: grants again; else rejects
  abbrev pub on_request : Board → Message → Phase → After (Option Kind)
  on_request b x Idle = granting b x
  on_request b x Request = sends b (reject_to x ∷ []) RequestKind
  on_request b x Grant = cond (serves (at b x.receiver) x.sender x.round) (sends b (grant_to b x ∷ []) RequestKind) (sends b (reject_to x ∷ []) RequestKind)
  on_request b x Release = granting b x

  -- all neighbours of k are marked
  abbrev pub complete : Board → ℕ → Bool
  complete b k = not (some_below (unmarked (at b k) k) (nodes m))

  abbrev pub counts : Board → Message → Board
  counts b x = put b x.receiver (counted (at b x.receiver) x.sender x.slots)

  -- counted in the present round, and decides once all are marked; else a release if it decided in that round; else a fail
  abbrev pub on_grant : Board → Message → After (Option Kind)
  on_grant b x =
      cond (waits (at b x.receiver) x.round)
      (cond (complete (counts b x) x.receiver) (sends (settled (counts b x) x.receiver) (settled_sent (counts b x) x.receiver) GrantKind) (sends (counts b x) [] GrantKind))
      (cond (not ((at b x.receiver).slot == 0) && (at b x.receiver).dated == x.round)
      (sends b (release (at b x.receiver).slot x.round x.receiver x.sender ∷ []) GrantKind)
      (sends b (fail x.round x.receiver x.sender ∷ []) GrantKind))

  -- gives up in the present round; else dropped
  abbrev pub on_reject : Board → Message → After (Option Kind)
  on_reject b x = cond (waits (at b x.receiver) x.round) (sends (gave_up b x.receiver) (fail_all b x.receiver) RejectKind) (sends b [] RejectKind)

  -- freed where it is in grant for just this sender and round
  abbrev pub frees : Board → Message → Board
  frees b x = cond (serves (at b x.receiver) x.sender x.round) (put b x.receiver (freed (at b x.receiver))) b

  abbrev pub hears : Board → Message → Board
  hears b x = put b x.receiver (hearing (at b x.receiver) x.slot)

  -- a foreign message is refused by 12; any other by its kind
  abbrev pub received : Board → Message → After (Option Kind)
  received b x =
      cond (foreign x) (refused b Foreign)
      (cond (x.kind == 1) (on_request b x (at b x.receiver).phase)
      (cond (x.kind == 2) (on_grant b x)
      (cond (x.kind == 3) (on_reject b x)
      (cond (x.kind == 4) (sends (frees (hears b x) x) [] ReleaseKind) (sends (frees b x) [] FailKind)))))

  -- no kind where nothing came
  abbrev pub delivered : Board → Option Message → After (Option Kind)
  delivered b None = record { board = b; sent = []; answer = Ok None }
  delivered b (Some x) = received b x
