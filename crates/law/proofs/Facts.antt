-- The invariant: what holds of the nodes, and of the messages in the air, at every point of a run; and what a node may turn into.
use Rattle.std.proofs.Common.{◌≡◌, ℕ, suc, ◌<◌, ◌≤◌, Bool, true, ◌⊎◌}
use Rattle.marks.specs.declared.Marks.{Marks}
use Rattle.marks.specs.View.{marked}
use Rattle.radio.specs.declared.message.Message.{Message}
use Rattle.rig.specs.declared.node.Node.{Node}
use Rattle.rig.specs.declared.node.Phase.TheVariants.{Request, Grant}

-- in grant for a, in a's round r
abbrev pub Locks : Node → ℕ → ℕ → Type 0
Locks v a r = (v.phase ≡ Grant) × (v.holder ≡ a) × (v.term ≡ r)

-- in request, in round r
abbrev pub Live : Node → ℕ → Type 0
Live v r = (v.phase ≡ Request) × (v.round ≡ r)

-- round r was given up
abbrev pub Gone : Node → ℕ → Type 0
Gone v r = (r < v.round) ⊎ ((r ≡ v.round) × (v.phase ≡ Request → ⊥) × (v.slot ≡ 0))

module _ (lk : ℕ → ℕ → Bool) where
  abbrev pub Near : ℕ → ℕ → Type 0
  Near b c = (c ≡ b) ⊎ (lk b c ≡ true)

  abbrev pub Contends : ℕ → ℕ → Type 0
  Contends a c = (a ≡ c → ⊥) × ((lk a c ≡ true) ⊎ ((k : ℕ) × (lk a k ≡ true) × (lk k c ≡ true)))

  -- the set has the slots of b and its neighbours
  abbrev pub Full : (ℕ → Node) → ℕ → Marks → Type 0
  Full nd b s = (c j : ℕ) → Near b c → (nd c).slot ≡ suc j → marked s j ≡ true

  -- and no other
  abbrev pub Sound : (ℕ → Node) → ℕ → Marks → Type 0
  Sound nd b s = (j : ℕ) → marked s j ≡ true → (c : ℕ) × Near b c × ((nd c).slot ≡ suc j)

  -- b is in grant for a's round r, and s has the slots around b
  abbrev pub Held : (ℕ → Node) → ℕ → ℕ → ℕ → Marks → Type 0
  Held nd b a r s = (lk a b ≡ true) × Locks (nd b) a r × Full nd b s

  -- of all nodes
  pub record Nodes (nd : ℕ → Node) : Type 0 where
    pub calm : (a : ℕ) → (nd a).phase ≡ Request → (nd a).slot ≡ 0
    pub small : (a : ℕ) → (nd a).slot ≤ 64
    pub few : (a : ℕ) → (nd a).round ≤ 65535
    pub dates : (a j : ℕ) → (nd a).slot ≡ suc j → (nd a).dated ≡ (nd a).round
    pub locked : (b a r : ℕ) → Locks (nd b) a r → (lk b a ≡ true) × (r ≤ (nd a).round)
    pub truly : (b j : ℕ) → marked (nd b).heard j ≡ true → (c : ℕ) × (lk b c ≡ true) × ((nd c).slot ≡ suc j)
    pub fully : (b c j : ℕ) → lk b c ≡ true → (nd c).slot ≡ suc j → (marked (nd b).heard j ≡ true) ⊎ Locks (nd b) c (nd c).round
    pub grants : (a b : ℕ) → (nd a).phase ≡ Request → marked (nd a).granted b ≡ true → Held nd b a (nd a).round (nd a).taken
    pub takes : (a j : ℕ) → (nd a).phase ≡ Request → marked (nd a).taken j ≡ true → (c : ℕ) × Contends a c × ((nd c).slot ≡ suc j)

  -- of a message in the air
  pub record Fact (nd : ℕ → Node) (x : Message) : Type 0 where
    pub asks : x.kind ≡ 1 → x.round ≤ (nd x.sender).round
    pub gives : x.kind ≡ 2 → (x.round ≤ (nd x.receiver).round)
        × (Live (nd x.receiver) x.round → Held nd x.sender x.receiver x.round x.slots × Sound nd x.sender x.slots)
    pub tells : x.kind ≡ 4 → (j : ℕ) × (x.slot ≡ suc j) × ((nd x.sender).slot ≡ suc j) × ((nd x.sender).round ≡ x.round)
    pub fails : x.kind ≡ 5 → Gone (nd x.sender) x.round

  -- the node k becomes w while the others stay as they are
  pub record Turn (nd : ℕ → Node) (k : ℕ) (w : Node) : Type 0 where
    -- w is right against the nodes as they were
    pub calm : w.phase ≡ Request → w.slot ≡ 0
    pub small : w.slot ≤ 64
    pub few : w.round ≤ 65535
    pub dates : (j : ℕ) → w.slot ≡ suc j → w.dated ≡ w.round
    pub locked : (a r : ℕ) → Locks w a r → (lk k a ≡ true) × (r ≤ (nd a).round)
    pub truly : (j : ℕ) → marked w.heard j ≡ true → (c : ℕ) × (lk k c ≡ true) × ((nd c).slot ≡ suc j)
    pub grants : w.phase ≡ Request → (b : ℕ) → marked w.granted b ≡ true → ((nd k).phase ≡ Request) × (w.round ≡ (nd k).round) × Held nd b k (nd k).round w.taken
    pub takes : w.phase ≡ Request → (j : ℕ) → marked w.taken j ≡ true → (c : ℕ) × Contends k c × ((nd c).slot ≡ suc j)
    -- what the node had is kept
    pub slots : (j : ℕ) → (nd k).slot ≡ suc j → (w.slot ≡ suc j) × (w.round ≡ (nd k).round)
    pub rounds : (nd k).round ≤ w.round
    pub hears : (j : ℕ) → j < 64 → marked (nd k).heard j ≡ true → marked w.heard j ≡ true
    pub gone : (r : ℕ) → Gone (nd k) r → Gone w r
    -- what it has now has a reason
    pub live : (r : ℕ) → r ≤ (nd k).round → Live w r → Live (nd k) r
    pub fresh : (j : ℕ) → w.slot ≡ suc j → ((nd k).slot ≡ suc j) ⊎ (((nd k).phase ≡ Request) × (w.round ≡ (nd k).round) × ((b : ℕ) → lk b k ≡ true → Locks (nd b) k (nd k).round))
    -- a lock is left only when its round is over
    pub locks : (a r : ℕ) → Locks (nd k) a r → Locks w a r ⊎ ((Live (nd a) r → ⊥) × ((j : ℕ) → (nd a).slot ≡ suc j → r ≡ (nd a).round → marked w.heard j ≡ true))
