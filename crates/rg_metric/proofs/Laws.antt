-- What other crates may cite of the lemmas of this one.
pub use Rattle.rg_metric.proofs.Same.{same_value-same, same_value-true, same_values_decides}
