use Rattle.std.proofs.Common.{◌<◌, sym, refl, ◌∙◌, subst, arith}
use Rattle.std.proofs.lemmas.Bool.Decides.{not_from_Decides}
use Rattle.map.specs.View.{nodes}
use Rattle.map.specs.declared.Map.{Map}
use Rattle.radio.specs.Ways.{AirRule}
use Rattle.rig.specs.Calm.{at}
use Rattle.drive.proofs.Delivers.{few_left}
use Rattle.drive.proofs.Episode.{Busy}
use Rattle.drive.proofs.Going.{Going, drew, goes_first, on, off}
use Rattle.drive.proofs.settling.settle.Given as given
use Rattle.drive.proofs.settling.settle.Goals as goal

rule : (g : given.Over) → AirRule g.R.Radio.ways
rule g = let met = g.met.R.Radio in record { put_air = met.put_air; take_air = met.take_air; taken_air = met.taken_air }

pub loop-came-init : goal.loop-came-init
loop-came-init g c =
    let r = g.R.Radio in
    let made = c.draw.ensures.made in
    let rig = c.draw.new.self in
    let a = c.args.a in
    let s = r.state c.draw.new.radio in
    let first = drew r.ways (rule g) c.requires.sure c.args.rig.now.map a c.requires.inside c.args.rig.now.nodes (r.state c.args.radio.now) c.requires.resting c.requires.undecided rig.nodes s made.nodes made.radio in
    (refl, goes_first r.ways rig.map a rig.nodes s (subst (λ (m : Map). Busy r.ways m a (at rig.nodes a).round rig.nodes s) (sym made.map) first.busy))

pub overflow_add-came : goal.overflow_add-came
overflow_add-came g c =
    let rig = c.draw.new.self in
    let e = c.loop-came.invariant.1.sum in
    omega (arith, few_left rig.map c.args.a (at rig.nodes))

pub loop-came-preserved : goal.loop-came-preserved
loop-came-preserved g c =
    let r = g.R.Radio in
    let made = c.deliver.ensures.made in (
      made.map ∙ c.loop-came.invariant.0,
      on r.ways (rule g) c.requires.sure _ c.args.a (subst (λ (m : Map). c.args.a < nodes m) (sym c.draw.ensures.made.map) c.requires.inside) _ _ _ _ _ c.loop-came.invariant.1 _ c.loop-came.invariant.0
          c.deliver.result _ _ c.deliver.ensures.value made.nodes made.radio (not_from_Decides c.is_nothing.result c.is_nothing.ensures c.loop-came-test.true),
    )

pub loop-came-smaller : goal.loop-came-smaller
loop-came-smaller g c =
    let before = c.loop-came.invariant.1.sum in
    let after = (loop-came-preserved g c).1.sum in
    omega arith

pub returns : goal.returns
returns g c =
    let r = g.R.Radio in
    let m = c.args.rig.now.map in
    let a = c.args.a in
    let b = c.args.rig.now.nodes in
    let s = r.state c.args.radio.now in
    let drawn = c.draw.ensures.made in
    let made = c.deliver.ensures.made in
    let first = drew r.ways (rule g) c.requires.sure m a c.requires.inside b s c.requires.resting c.requires.undecided c.draw.new.self.nodes (r.state c.draw.new.radio) drawn.nodes drawn.radio in
    let going = subst (λ (x : Map). Going r.ways x a c.draw.new.self.nodes (r.state c.draw.new.radio) c.loop-came.rig.nodes (r.state c.loop-came.radio) c.loop-came.came) drawn.map c.loop-came.invariant.1 in
    record {
      map = made.map ∙ c.loop-came.invariant.0 ∙ drawn.map;
      settling = off r.ways (rule g) c.requires.sure m a c.requires.inside _ _ _ _ _ going _ (c.loop-came.invariant.0 ∙ drawn.map)
          c.deliver.result _ _ c.deliver.ensures.value made.nodes made.radio b s c.requires.resting.rests c.requires.undecided first (c.is_nothing.ensures.0 c.loop-came-test.false);
    }
