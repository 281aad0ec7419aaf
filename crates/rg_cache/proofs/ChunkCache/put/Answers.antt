use Rattle.rg_cache.proofs.Recency.{put_step, valid_after, put_shown, put_others}
use Rattle.rg_cache.proofs.ChunkCache.put.Goals as goal

pub invariant_of-self : goal.invariant_of-self
invariant_of-self g c =
    let absent = rw (← c.self.view_is) at c.requires.absent in
    let step = put_step c.self.inside.chunks c.args.place c.args.item c.self.invariant.0 absent in
    valid_after c.put.result c.self.inside.chunks c.put.new.self _ c.put.ensures.entries c.put.ensures.err c.self.invariant.0 step.valid c.self.invariant.1

pub returns-in-Ok-clause-places : goal.returns-in-Ok-clause-places
returns-in-Ok-clause-places g c =
    let absent = rw (← c.self.view_is) at c.requires.absent in
    let step = put_step c.self.inside.chunks c.args.place c.args.item c.self.invariant.0 absent in
    rw (c.in-Ok.ensures.entries, ← c.self.view_is) step.places_are

pub returns-in-Ok-clause-item : goal.returns-in-Ok-clause-item
returns-in-Ok-clause-item g c =
    let absent = rw (← c.self.view_is) at c.requires.absent in
    let step = put_step c.self.inside.chunks c.args.place c.args.item c.self.invariant.0 absent in
    rw (c.in-Ok.ensures.entries, step.entries_are) (put_shown c.self.inside.chunks.cap c.args.place c.args.item c.self.inside.chunks.entries c.self.invariant.0.2)

pub returns-in-Ok-clause-others : goal.returns-in-Ok-clause-others
returns-in-Ok-clause-others g c =
    let absent = rw (← c.self.view_is) at c.requires.absent in
    let step = put_step c.self.inside.chunks c.args.place c.args.item c.self.invariant.0 absent in
    rw (c.in-Ok.ensures.entries, step.entries_are, ← c.self.view_is) (λ q x held. put_others c.self.inside.chunks.cap c.args.place c.args.item c.self.inside.chunks.entries q x held)
