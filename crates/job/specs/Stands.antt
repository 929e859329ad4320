-- A rig in play over a radio, as values; for inner functions, no public contract rests on it.
use Rattle.std.specs.Prelude.{◌≡◌, ℕ, ◌+◌, ◌≤◌}
use Rattle.script.specs.declared.Event.{Event}
use Rattle.script.specs.declared.Event.TheVariants.{Draw, Deliver, Nudge}
use Rattle.job.specs.declared.playing.Play.{Play}
use Rattle.job.specs.Play.{Stand}

abbrev pub stand : {S : Type 0} → Play → S → Stand S
stand p s = record { nodes = p.rig.nodes; radio = s; came = p.came; refused = p.refused }

-- what is listed of it, whatever the radio
abbrev pub shown : Play → Stand (Unit {0})
shown p = stand p tt

-- p went on to p', over a radio now in state s: the map stays, and it stands as t
pub record Went {S : Type 0} (p p' : Play) (s : S) (t : Stand S) : Type 0 where
  pub map : p'.rig.map ≡ p.rig.map
  pub after : stand p' s ≡ t

-- how many calls an event makes at most
abbrev pub calls : Event → ℕ
calls (Draw k v) = 1
calls (Deliver n) = n
calls (Nudge k) = 1

-- n more can be counted: all the events of a job make at most 4096 * 4096 = 16777216 calls
abbrev pub Room : Play → ℕ → Type 0
Room p n = p.came + p.refused + n ≤ 16777216
