-- One call more of a list of calls.
use Rattle.std.proofs.Common.{◌≡◌, ℕ, ◌+◌, ◌<◌, ◌≤◌, List, [], ◌-◌, ◌++◌, Option, length, get_or, take, drop, set, sym, refl, ap, ◌∙◌, arith}
use Rattle.std.specs.Option.{option_to_list}
use Rattle.std.proofs.lemmas.List.{take_more, take_all, take_more_set, drop-set-lt, drop-drop}
use Rattle.map.specs.View.{nodes}
use Rattle.map.specs.declared.Map.{Map}
use Rattle.radio.specs.Ways.{Ways, AirRule}
use Rattle.rig.specs.declared.Rig.{Rig}
use Rattle.rig.specs.Board.{new_board}
use Rattle.rig.specs.Laws.{Decides}
use Rattle.law.specs.declared.Call.{Call}
use Rattle.law.specs.declared.Answer.{Answer}
use Rattle.law.specs.Runs.{Calls, none, more, Run, nodes_after, radio_after, answer_of}
use Rattle.law.proofs.Law.{every_run}
use Rattle.runs.specs.Decider.{Decider}
use Rattle.runs.specs.Performed.{Made}
use Rattle.runs.proofs.Deciding.{deciders_are}

-- tables that are alike past a place are alike past a later one
drop_later : {A : Type 0} (xs ys : List A) (i n : ℕ) → i ≤ n → drop i xs ≡ drop i ys → drop n xs ≡ drop n ys
drop_later {A} xs ys i n l e =
    let d : n ≡ i + (n - i) = omega arith in
    rw d (sym (drop-drop (n - i) i xs) ∙ ap (drop (n - i)) e ∙ drop-drop (n - i) i ys)

module _ {S : Type 0} (w : Ways S) (m : Map) (s₀ : S) (calls : List Call) (answers₀ : List Answer) (order₀ : List ℕ) where
  -- the first i calls are made, of a new rig: their answers and the nodes that decided stand first in the tables, whose rest is as it was
  pub record Reached (i decided : ℕ) (rig : Rig) (answers : List Answer) (order : List ℕ) (s : S) : Type 0 where
    pub map : rig.map ≡ m
    pub made : Calls w m new_board s₀ (take i calls) (take i answers) (take decided order) rig.nodes s
    pub few : decided ≤ i
    pub rest : drop i answers ≡ drop i answers₀
    pub rest_order : drop decided order ≡ drop decided order₀

  pub reached_none : (rig : Rig) → rig.map ≡ m → rig.nodes ≡ new_board → Reached 0 0 rig answers₀ order₀ s₀
  reached_none rig e eb = record { map = e; made = rw eb none; few = omega arith; rest = refl; rest_order = refl }

  module _ (i decided : ℕ) (rig rig' : Rig) (answers : List Answer) (order : List ℕ) (s s' : S) (d : Call) (a : Answer) (node : Option ℕ)
      (r : Reached i decided rig answers order s) (l : i < length calls) (space : i < length answers) (same : rig'.map ≡ rig.map)
      (eb : rig'.nodes ≡ nodes_after w rig.map rig.nodes s (get_or calls i d)) (es : s' ≡ radio_after w rig.map rig.nodes s (get_or calls i d))
      (ea : a ≡ answer_of w rig.map rig.nodes s (get_or calls i d))
      (single : (j k : ℕ) → Decides rig.nodes rig'.nodes j → Decides rig.nodes rig'.nodes k → j ≡ k) (decides : Decider (nodes rig'.map) rig.nodes rig'.nodes node) where
    -- one call more, with its answer, and the node that decided, if one did, in the tables
    pub reached_more : (decided' : ℕ) (order' : List ℕ) → take decided' order' ≡ take decided order ++ option_to_list node → drop decided' order' ≡ drop decided' order → decided ≤ decided' → decided' ≤ decided + 1
        → Reached (i + 1) decided' rig' (set answers i a) order' s'
    reached_more decided' order' first rest up most =
        let e = r.map in
        let few = r.few in
        let one = deciders_are rig'.map rig.nodes rig'.nodes node single decides in
        record {
          map = same ∙ e;
          made = rw (take_more calls i d l, take_more_set answers i a space, first, ← one, ea, es, eb, same, e) (more r.made (get_or calls i d));
          few = omega arith;
          rest = drop-set-lt (i + 1) answers i a (omega arith) ∙ drop_later answers answers₀ i (i + 1) (omega arith) r.rest;
          rest_order = rest ∙ drop_later order order₀ decided decided' up r.rest_order;
        }

  -- all of them
  pub performed : AirRule w → (i decided : ℕ) (rig : Rig) (answers : List Answer) (order : List ℕ) (s : S) → i ≡ length calls → Reached i decided rig answers order s
      → Made w m calls s₀ s answers₀ answers order₀ order (record { rig = rig; decided = decided })
  performed rule i decided rig answers order s e r = record {
    map = r.map;
    made = made;
    few = (let few = r.few in omega arith);
    rest = rw e at r.rest;
    rest_order = r.rest_order;
    run = run;
    law = λ air. (every_run w rule m rig.nodes s calls _ _ (run air)).0;
    unseen = λ air. (every_run w rule m rig.nodes s calls _ _ (run air)).1;
  }
    where
      made : Calls w m new_board s₀ calls (take (length calls) answers) (take decided order) rig.nodes s
      made = rw e at (rw (take_all i calls (omega arith)) at r.made)

      run : w.air s₀ ≡ [] → Run w m calls (take (length calls) answers) (take decided order) rig.nodes s
      run air = record { start = s₀; empty = air; made = made }
