-- What other crates may cite of the lemmas of this one.
pub use Rattle.rg_rank.proofs.Settled.{same_ranks}
