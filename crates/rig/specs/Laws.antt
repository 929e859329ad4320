-- What every call keeps, in the subject's words.
use Rattle.std.specs.Prelude.{◌≡◌, ℕ, ◌≤◌, Some, None, Err, Option, Result, ◌≢◌}
use Rattle.refusal.specs.declared.Refusal.{Refusal}
use Rattle.radio.specs.declared.kind.Kind.{Kind}
use Rattle.radio.specs.declared.message.Message.{Message}
use Rattle.rig.specs.Calm.{at}
use Rattle.rig.specs.Board.{Board}

-- node k decides between b and b': it was undecided, and is decided
abbrev pub Decides : Board → Board → ℕ → Type 0
Decides b b' k = ((at b k).slot ≡ 0) × ((at b' k).slot ≢ 0)

-- between b and b' only node n changes; a slot that is not 0 stays; a round does not fall; no two nodes decide
pub record Touches (b b' : Board) (n : ℕ) : Type 0 where
  pub others : (k : ℕ) → (k ≢ n) → at b' k ≡ at b k
  pub slots : (k : ℕ) → ((at b k).slot ≢ 0) → (at b' k).slot ≡ (at b k).slot
  pub rounds : (k : ℕ) → (at b k).round ≤ (at b' k).round
  pub single : (j k : ℕ) → Decides b b' j → Decides b b' k → j ≡ k

-- a call at node n, from nodes b and radio s to nodes b' and radio s': it touches only that node, and a refusal leaves nodes and radio as they were
pub record Lawful {A S : Type 0} (b b' : Board) (s s' : S) (n : ℕ) (r : Result A Refusal) : Type 0 where
  pub touches : Touches b b' n
  pub refusal : (e : Refusal) → r ≡ Err e → (b' ≡ b) × (s' ≡ s)

-- a delivery of what was taken, from the radio as the taking left it: lawful at the message's receiver; where nothing came, nothing changes
abbrev pub LawfulDelivery : {S : Type 0} → Board → Board → S → S → Option Message → Result (Option Kind) Refusal → Type 0
LawfulDelivery b b' s s' None r = (b' ≡ b) × (s' ≡ s)
LawfulDelivery b b' s s' (Some x) r = Lawful b b' s s' x.receiver r
