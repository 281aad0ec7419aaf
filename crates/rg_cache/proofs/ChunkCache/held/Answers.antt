use Rattle.rg_cache.proofs.Recency.{untouched}
use Rattle.rg_cache.proofs.ChunkCache.held.Goals as goal

pub returns-clause-untouched : goal.returns-clause-untouched
returns-clause-untouched g c = rw (← c.self.view_is) (untouched c.self.inside.chunks c.self.invariant.0)
