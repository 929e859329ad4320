-- The listing of a job, and what running a job answers.
use Rattle.std.specs.Prelude.{◌≡◌, ℕ, ◌<◌, ◌≤◌, ◌⊎◌, List, [], ◌∷◌, ◌++◌, length, drop, Some, None, Ok, Err, codes, Option, Result}
use Rattle.refusal.specs.Entry.{entry, Why}
use Rattle.refusal.specs.declared.Refusal.{Refusal}
use Rattle.map.specs.View.{nodes, net}
use Rattle.map.specs.declared.Map.{Map}
use Rattle.records.specs.Fields.{length_rule, records}
use Rattle.records.specs.Fits.{AllFit, RefusedFor}
use Rattle.text.specs.declared.Text.{Text}
use Rattle.text.specs.Written.{written, line_end, row_line, lines, refused_line}
use Rattle.radio.specs.Coin.{CoinState, coin_ways, seeded}
use Rattle.radio.specs.Queue.{queue_ways}
use Rattle.rig.specs.declared.node.Node.{Node}
use Rattle.rig.specs.Board.{Board}
use Rattle.rig.specs.Calm.{at}
use Rattle.law.specs.Law.{frame}
use Rattle.script.specs.Script.{good, described, seed_of, events}
use Rattle.job.specs.Play.{Stand, fresh, plays, PlaysOut}

-- the numbers of a node's line: node, slot, turn, round
abbrev pub columns : ℕ → Node → List ℕ
columns k v = k ∷ (v.slot ∷ (v.turn ∷ (v.round ∷ [])))

-- the lines of the nodes below k, by rising number
abbrev pub rows : Board → ℕ → List ℕ
rows b k = lines (λ n. row_line (columns n (at b n))) k

-- a line for each node; then "end", the deliveries that brought a message, the refused events, the largest slot
abbrev pub listing : {S : Type 0} → Map → Stand S → List ℕ
listing m t = rows t.nodes (nodes m) ++ (codes "end" ++ line_end (t.came ∷ (t.refused ∷ (frame m t.nodes ∷ []))))

-- over which radio

-- a new coin radio
abbrev pub coin : ℕ → CoinState
coin seed = record { value = seeded seed; waits = [] }

-- the listing of a job on the map m: over the coin radio where it has a seed, else over the rack queue
abbrev pub listed_over : Map → List ℕ → Option ℕ → List ℕ
listed_over m job None = listing m (plays queue_ways m (events job) (fresh []))
listed_over m job (Some seed) = listing m (plays coin_ways m (events job) (fresh (coin seed)))

abbrev pub listed : Map → List ℕ → List ℕ
listed m job = listed_over m job (seed_of job)

-- the law of what is listed
abbrev pub PlaysOutOver : Map → List ℕ → Option ℕ → Type 0
PlaysOutOver m job None = PlaysOut queue_ways m (events job) (plays queue_ways m (events job) (fresh []))
PlaysOutOver m job (Some seed) = PlaysOut coin_ways m (events job) (plays coin_ways m (events job) (fresh (coin seed)))

-- what is answered

-- every record of the job is good, and it describes this map; the events make a run that keeps the slot law
pub record JobRuns (job : List ℕ) (m : Map) : Type 0 where
  pub fits : length_rule (length job) ≡ Ok tt
  pub good : AllFit (good job) (records job)
  pub map : net m ≡ described job
  pub law : PlaysOutOver m job (seed_of job)

-- a job's listing, or its refusal
abbrev pub Lists : List ℕ → Result Text Refusal → Type 0
Lists job (Ok text) = (m : Map) × JobRuns job m × (written text ≡ listed m job)
Lists job (Err e) = RefusedFor (good job) job e

-- the text of a job: its listing, or the line of its refusal
abbrev pub Printed : List ℕ → List ℕ → Type 0
Printed job text = ((m : Map) × JobRuns job m × (text ≡ listed m job)) ⊎ ((e : Refusal) × RefusedFor (good job) job e × (text ≡ refused_line e))

-- the listing stands at the beginning of the buffer, and its length is answered; or a refusal, 1 for a buffer of less than 1024 bytes, then by the job; and
-- the buffer as before
abbrev pub Ran : List ℕ → List ℕ → List ℕ → Result ℕ Refusal → Type 0
Ran job before after (Ok n) = (1024 ≤ length before) × ((m : Map) × JobRuns job m × (n ≡ length (listed m job)) × (after ≡ listed m job ++ drop n before))
Ran job before after (Err e) = (after ≡ before) × Why (entry e).number 1 (length before < 1024) ((1024 ≤ length before) × RefusedFor (good job) job e)
