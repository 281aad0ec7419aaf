use Rattle.rg_verify.proofs.Chunks.{pushed}
use Rattle.rg_verify.proofs.payments.push_chunk.Goals as goal

pub places-preserved : goal.places-preserved
places-preserved c =
    let e = c.in_ok-push_event.ensures in
    pushed c.args.events.now c.places.events c.push_event.new.events c.args.chunk.now c.places.index e.0 e.1 c.places.invariant e.2
