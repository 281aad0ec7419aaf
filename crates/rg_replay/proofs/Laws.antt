-- What other crates may cite of the lemmas of this one.
pub use Rattle.rg_replay.proofs.Wholes.{same_text_from}
