use Rattle.std.proofs.Common.{◌∙◌, ap, arith}
use Rattle.map.specs.Calls.{linked_up}
use Rattle.map.specs.View.{Net}
use Rattle.benches.proofs.Links.{link_made}
use Rattle.benches.proofs.Complete.{one_more}
use Rattle.benches.proofs.full.Goals as goal

pub loop-b-preserved : goal.loop-b-preserved
loop-b-preserved c =
    let n = c.clamp-count.result in
    let inside = c.loop-a-test.true in
    let below = c.loop-b-test.true in
    link_made n c.loop-a.a c.loop-b.b _ _ _ (ap (λ (x : Net). x.size) c.loop-b.invariant) (omega arith) (omega arith) (λ e. omega arith) c.link.ensures.answer c.link.ensures.after
    ∙ ap (λ (x : Net). linked_up x c.loop-a.a c.loop-b.b) c.loop-b.invariant
    ∙ one_more n c.loop-a.a c.loop-b.b below
