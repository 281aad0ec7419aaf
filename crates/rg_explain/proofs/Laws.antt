-- What other crates may cite of the lemmas of this one.
pub use Rattle.rg_explain.proofs.Stopped.{nothing_stops, nothing_whole}
