use Rattle.std.proofs.Common.{◌≡◌, ℕ, max, Option, sym, ap, ◌∙◌}
use Rattle.std.specs.List.{reduce}
use Rattle.std.specs.Option.{unwrap_or}
use Rattle.std.proofs.lemmas.Iterator.{YieldsList-from_slice}
use Rattle.std.proofs.lemmas.Iterator.Adapters.{option_map_id}
use Rattle.std.proofs.lemmas.Iterator.Consumers.{YieldsList-from_copied, YieldsList-at, max_from_yields_List}
use Rattle.map.specs.View.{nodes}
use Rattle.rig.specs.Calm.{at}
use Rattle.job.proofs.Ends.{largest_of}
use Rattle.job.proofs.listing.largest.Goals as goal

pub returns : goal.returns
returns c =
    let road = YieldsList-from_copied (YieldsList-at c.copied.ensures.source (YieldsList-from_slice c.slots.result c.iter.ensures.rest)) in
    let most : c.max.result ≡ reduce max c.slots.result = sym (option_map_id c.max.result) ∙ max_from_yields_List _ c.max.result c.max.ensures.ran road in
    c.unwrap_or.ensures ∙ ap (λ (o : Option ℕ). unwrap_or o 0) most
    ∙ largest_of (λ k. (at c.args.rig.now.nodes k).slot) (nodes c.args.rig.now.map) c.slots.result c.slots.ensures.each c.slots.ensures.past
