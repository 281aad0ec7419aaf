use Rattle.std.proofs.Common.{sym}
use Rattle.rg_cache.proofs.Recency.{first_key, first_item, first_stays}
use Rattle.rg_cache.proofs.ChunkCache.first.Goals as goal

pub returns-in-Some-clause-place : goal.returns-in-Some-clause-place
returns-in-Some-clause-place g c =
    rw (← c.self.view_is) (first_key c.self.inside.chunks.entries (c.in-Some.first.now, c.in-Some.item.now) c.args.place c.in-Some.ensures c.if-first-place.true)

pub returns-in-Some-clause-item : goal.returns-in-Some-clause-item
returns-in-Some-clause-item g c =
    rw (← c.self.view_is) (sym (first_item c.self.inside.chunks.entries (c.in-Some.first.now, c.in-Some.item.now) c.args.place c.in-Some.ensures c.if-first-place.true))

pub returns-in-Some-clause-stays : goal.returns-in-Some-clause-stays
returns-in-Some-clause-stays g c =
    rw (← c.self.view_is) (first_stays c.self.inside.chunks (c.in-Some.first.now, c.in-Some.item.now) c.args.place c.self.invariant.0 c.in-Some.ensures c.if-first-place.true)
