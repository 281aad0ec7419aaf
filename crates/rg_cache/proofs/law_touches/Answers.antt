use Rattle.rg_cache.proofs.Recency.{touched_further}
use Rattle.rg_cache.proofs.law_touches.Goals as goal

pub returns : goal.returns
returns c = touched_further
