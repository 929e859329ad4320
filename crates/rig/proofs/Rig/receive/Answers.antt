use Rattle.std.proofs.Common.{◌≡◌, ◌<◌, false, rules, refl}
use Rattle.rig.specs.Steps.{foreign}
use Rattle.rig.proofs.Receives.{release_frees, fail_frees}
use Rattle.rig.proofs.Rig.receive.Goals as goal

pub returns-in-Release-clause-made : goal.returns-in-Release-clause-made
returns-in-Release-clause-made g c =
    let rig = c.args.self.now in
    let x = c.args.x in
    let known : foreign rig.map x ≡ false = search rules in
    let kind : x.kind ≡ 4 = search rules in
    let inside : x.receiver < 64 = search rules in
    release_frees g.R.Radio.ways rig _ _ _ x known c.freed_by.result kind inside (search rules) refl refl refl

pub returns-in-Fail-clause-made : goal.returns-in-Fail-clause-made
returns-in-Fail-clause-made g c =
    let rig = c.args.self.now in
    let x = c.args.x in
    let known : foreign rig.map x ≡ false = search rules in
    let kind : x.kind ≡ 5 = search rules in
    fail_frees g.R.Radio.ways rig _ _ _ x known c.freed_by-in-Fail.result kind (search rules) refl refl refl
