-- What other crates may cite of the lemmas of this one.
pub use Rattle.rg_group.proofs.Heads.{greater, less}
pub use Rattle.rg_group.proofs.KeyValues.{bytes_written, exact}
