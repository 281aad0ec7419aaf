-- What other crates may cite of the lemmas of this one.
pub use Rattle.rg_commands.proofs.LastLines.{line_of_status}
