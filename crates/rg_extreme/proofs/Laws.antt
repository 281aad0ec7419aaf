-- What other crates may cite of the lemmas of this one.
pub use Rattle.rg_extreme.proofs.ReadExtremes.{highest_back, lowest_back}
