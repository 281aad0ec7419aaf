-- What other crates may cite of the lemmas of this one.
pub use Rattle.rg_config.proofs.Legal.{measured}
pub use Rattle.rg_config.proofs.One.{one_plan}
