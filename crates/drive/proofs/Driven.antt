-- A drive comes to what it is to come to, once all nodes are settled and the table is filled.
use Rattle.std.proofs.Common.{◌≡◌, ℕ, ◌<◌, ◌≤◌, List, get_or, ◌∙◌, subst}
use Rattle.map.specs.View.{nodes}
use Rattle.map.specs.declared.Map.{Map}
use Rattle.radio.specs.Queue.{queue_ways}
use Rattle.radio.specs.declared.message.Message.{Message}
use Rattle.rig.specs.Calm.{at}
use Rattle.rig.specs.Board.{Board}
use Rattle.law.specs.Law.{SlotLaw}
use Rattle.law.specs.Runs.{Run}
use Rattle.drive.specs.Drive.{Driven, Whole}
use Rattle.drive.specs.Settling.{Settled}
use Rattle.drive.proofs.Settled.{all_release, six_each}

pub drives_all : (m : Map) (order before after : List ℕ) (b : Board) (s : List Message) (count : ℕ) → Settled queue_ways m order b s count → SlotLaw m order b → Whole (nodes m) order
    → ((k : ℕ) → k < nodes m → get_or after k 0 ≡ (at b k).slot) → ((k : ℕ) → nodes m ≤ k → get_or after k 0 ≡ get_or before k 0) → Driven m order before after count
drives_all m order before after b s count h law whole first rest = record {
  calls = h.calls;
  answers = h.answers;
  board = b;
  drives = h.drives;
  run = subst (λ (ms : List Message). Run queue_ways m h.calls h.answers order b ms) h.empty h.run;
  release = all_release queue_ways m order b s count h law whole.all;
  slots = first;
  rands = λ k l. first k l ∙ law.slots k l;
  rest = rest;
  law = law;
  six = six_each queue_ways m order b s count h law whole.all;
}
