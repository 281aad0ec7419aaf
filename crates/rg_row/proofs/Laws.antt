-- What other crates may cite of the lemmas of this one.
pub use Rattle.rg_row.proofs.Fits.{Fits, event_is, row_fits}
