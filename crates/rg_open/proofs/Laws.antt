-- What other crates may cite of the lemmas of this one.
pub use Rattle.rg_open.proofs.Steps.{other_below}
