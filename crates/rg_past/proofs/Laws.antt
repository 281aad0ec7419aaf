-- What other crates may cite of the lemmas of this one.
pub use Rattle.rg_past.proofs.Kept.{cause-within, kept-then}
