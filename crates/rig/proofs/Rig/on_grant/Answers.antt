use Rattle.std.proofs.Common.{sym, refl, ◌∙◌}
use Rattle.rig.proofs.Neighbours.{all_marked}
use Rattle.rig.proofs.Receives.{grant_settles, grant_counts}
use Rattle.rig.proofs.Rig.on_grant.Goals as goal

pub returns-then-is_subset : goal.returns-then-is_subset
returns-then-is_subset g c =
    let rig = c.args.self.now in
    let x = c.args.delivery.message in
    let v = c.counted-counted.result in
    let all = all_marked rig.map x.receiver c.neighbours.result c.is_subset.result c.neighbours.ensures.marks v.granted c.is_subset.ensures ∙ c.if-is_subset.true in
    let made = c.settle.ensures in
    grant_settles g.R.Radio.ways rig _ _ _ x v c.args.delivery.inside (sym c.waits_in.ensures ∙ c.if-waits_in.true) c.counted-counted.ensures all made.map made.nodes made.radio

pub returns-else-is_subset : goal.returns-else-is_subset
returns-else-is_subset g c =
    let rig = c.args.self.now in
    let x = c.args.delivery.message in
    let v = c.counted-counted.result in
    let some = all_marked rig.map x.receiver c.neighbours.result c.is_subset.result c.neighbours.ensures.marks v.granted c.is_subset.ensures ∙ c.if-is_subset.false in
    grant_counts g.R.Radio.ways rig _ _ _ x v c.args.delivery.inside (sym c.waits_in.ensures ∙ c.if-waits_in.true) c.counted-counted.ensures some refl refl refl
