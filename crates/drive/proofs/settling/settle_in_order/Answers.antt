use Rattle.std.proofs.Common.{ℕ, ◌+◌, ◌<◌, List, get_or, take, sym, refl, ◌∙◌, subst, arith, take_all}
use Rattle.std.proofs.lemmas.List.{take_more}
use Rattle.map.specs.View.{nodes}
use Rattle.map.specs.declared.Map.{Map}
use Rattle.map.proofs.Counts.{degree_le}
use Rattle.radio.specs.Ways.{AirRule}
use Rattle.drive.specs.Settling.{Resting, Settling, Settled}
use Rattle.drive.proofs.Settled.{settled_none, resting, settled_more, settled_law, next_open, few_came}
use Rattle.drive.proofs.settling.settle_in_order.Given as given
use Rattle.drive.proofs.settling.settle_in_order.Goals as goal

rule : (g : given.Over) → AirRule g.R.Radio.ways
rule g = let met = g.met.R.Radio in record { put_air = met.put_air; take_air = met.take_air; taken_air = met.taken_air }

pub loop-node-init : goal.loop-node-init
loop-node-init g c = let r = g.R.Radio in (refl, settled_none r.ways c.args.rig.now.map c.args.rig.now.nodes (r.state c.args.radio.now) c.requires.new c.requires.empty)

pub settle-count-requires : goal.settle-count-requires
settle-count-requires g c =
    let r = g.R.Radio in
    let m = c.args.rig.now.map in
    let order = c.args.order.now in
    let i = c.loop-node.node-index in
    let b = c.loop-node.rig.nodes in
    let s = r.state c.loop-node.radio in
    let same = sym c.loop-node.invariant.0 in
    let so_far = c.loop-node.invariant.1 in
    record {
      sure = c.requires.sure;
      resting = subst (λ (x : Map). Resting r.ways x b s) same (resting r.ways m (take i order) b s _ so_far);
      inside = subst (λ (x : Map). get_or order i 0 < nodes x) same (c.requires.fine i c.loop-node-test.true).0;
      undecided = next_open r.ways (rule g) m order c.requires.fine i c.loop-node-test.true b s _ so_far;
    }

pub overflow_add-count : goal.overflow_add-count
overflow_add-count g c =
    let r = g.R.Radio in
    let few = few_came r.ways _ _ _ _ _ c.loop-node.invariant.1 in
    let e = c.settle-count.ensures.settling.thrice in
    omega (arith, degree_le c.loop-node.rig.map (get_or c.args.order.now c.loop-node.node-index 0))

pub loop-node-preserved : goal.loop-node-preserved
loop-node-preserved g c =
    let r = g.R.Radio in
    let m = c.args.rig.now.map in
    let order = c.args.order.now in
    let i = c.loop-node.node-index in
    let a = get_or order i 0 in
    let l = c.loop-node-test.true in
    let b = c.loop-node.rig.nodes in
    let b' = c.settle-count.new.rig.nodes in
    let s = r.state c.loop-node.radio in
    let s' = r.state c.settle-count.new.radio in
    let n = c.settle-count.result in
    let so_far = c.loop-node.invariant.1 in
    let now-settled = subst (λ (x : Map). Settling r.ways x a b b' s s' n) c.loop-node.invariant.0 c.settle-count.ensures.settling in (
      c.settle-count.ensures.map ∙ c.loop-node.invariant.0,
      subst (λ (o : List ℕ). Settled r.ways m o b' s' (c.loop-node.count + n)) (sym (take_more order i 0 l))
          (settled_more r.ways m (take i order) a b b' s s' _ n (c.requires.fine i l).0 (next_open r.ways (rule g) m order c.requires.fine i l b s _ so_far) so_far now-settled),
    )

pub returns : goal.returns
returns g c =
    let r = g.R.Radio in
    let m = c.args.rig.now.map in
    let order = c.args.order.now in
    let b = c.loop-node.rig.nodes in
    let s = r.state c.loop-node.radio in
    let whole = subst (λ (o : List ℕ). Settled r.ways m o b s c.loop-node.count) (take_all c.loop-node.node-index order c.loop-node-test.false) c.loop-node.invariant.1 in
    record { map = c.loop-node.invariant.0; settled = whole; law = settled_law r.ways (rule g) m order b s c.loop-node.count whole }
