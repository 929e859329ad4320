-- The draws of the examples, computed.
use Rattle.std.proofs.Common.{◌≡◌, ℕ, ◌/◌, ◌%◌, true, false, cond, ◌&&◌, eqb, [], Ok, refl, ap, ◌∙◌}
use Rattle.marks.specs.Below.{some_below, sum_below, count_below}
use Rattle.marks.specs.View.{bit}
use Rattle.map.specs.declared.Map.{Map}
use Rattle.map.specs.View.{Net, net, contender_count}
use Rattle.schedule.specs.Rand.{first_from}
use Rattle.rig.specs.declared.Lottery.{Lottery}
use Rattle.rig.specs.declared.Lottery.TheVariants.{Lost, Asked, Decided}
use Rattle.rig.specs.Calm.{blank}
use Rattle.rig.specs.Board.{new_board, put, each}
use Rattle.rig.specs.Steps.{After, asking, decided, lowest, drawn}
use Rattle.benches.specs.Paths.{path}
use Rattle.facts.specs.Examples.{lottery}
use Rattle.facts.proofs.Nets.{drawn_of, won_of, contend_of, drawn-of}

abbrev pub lone_after : After Lottery
lone_after = record { board = put new_board 0 (decided (asking blank) 1 1); sent = []; answer = Ok Decided }

pub lone_drawn : (m : Map) → drawn_of m (path 1) new_board 0 1 ≡ lone_after
unfolding some_below sum_below bit first_from lowest each
lone_drawn m = refl

pub three_drawn : (m : Map) (v : ℕ) → (drawn_of m (path 3) new_board 0 v).answer ≡ Ok (lottery v)
unfolding some_below sum_below
three_drawn m v =
    elim (eqb (v % 2) 1 && eqb (v / 2 % 3) 0)
    as (λ b. (cond b (won_of m (path 3) new_board 0) (record { board = new_board; sent = []; answer = Ok Lost })).answer ≡ Ok (cond b Asked Lost))
    [ true ↦ refl | false ↦ refl ]

pub three_contenders : (m : Map) → net m ≡ path 3 → contender_count m 0 ≡ 2
unfolding some_below sum_below
three_contenders m e = ap (λ (n : Net). count_below (contend_of n 0) n.size) e

pub lone_is : (m : Map) → net m ≡ path 1 → drawn m new_board 0 1 ≡ lone_after
lone_is m e = drawn-of m (path 1) e new_board 0 1 ∙ lone_drawn m
