-- What a call made of the rig and the radio.
use Rattle.std.specs.Prelude.{◌≡◌, List}
use Rattle.map.specs.declared.Map.{Map}
use Rattle.radio.specs.declared.message.Message.{Message}
use Rattle.radio.specs.Ways.{Ways, puts}
use Rattle.rig.specs.declared.Rig.{Rig}
use Rattle.rig.specs.Board.{Board}
use Rattle.rig.specs.Steps.{After}

-- the map stays, the nodes are these, and the radio is its own rule folded over what was sent
pub record Made {S : Type 0} (w : Ways S) (rig rig' : Rig) (s s' : S) (board : Board) (sent : List Message) : Type 0 where
  pub map : rig'.map ≡ rig.map
  pub nodes : rig'.nodes ≡ board
  pub radio : s' ≡ puts w s sent

-- the same of what a step makes of the map and the nodes
abbrev pub Does : {A S : Type 0} → Ways S → Rig → Rig → S → S → (Map → Board → After A) → Type 0
Does w rig rig' s s' step = Made w rig rig' s s' (step rig.map rig.nodes).board (step rig.map rig.nodes).sent
