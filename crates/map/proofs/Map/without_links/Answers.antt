use Rattle.std.proofs.Common.{replicate, refl}
use Rattle.map.specs.Rows.{has}
use Rattle.map.proofs.Rows.{no_links, bare_mutual, bare_apart, bare_within, bare_net}
use Rattle.map.proofs.Map.without_links.Goals as goal

pub invariant_of-result : goal.invariant_of-result
invariant_of-result c =
    let rows = replicate 64 c.empty-rows.result in
    let none = no_links 64 c.empty-rows.result c.empty-rows.ensures.marks in
    record {
      least = c.requires.0;
      most = c.requires.1;
      full = refl;
      both = bare_mutual rows none;
      apart = bare_apart rows none;
      within = bare_within rows none c.args.count;
    }

pub returns : goal.returns
returns c =
    bare_net c.args.count (has (replicate 64 c.empty-rows.result)) (no_links 64 c.empty-rows.result c.empty-rows.ensures.marks)
