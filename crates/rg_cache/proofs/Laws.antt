-- What other crates may cite of the lemmas of this one.
pub use Rattle.rg_cache.proofs.Recency.{touched_further}
