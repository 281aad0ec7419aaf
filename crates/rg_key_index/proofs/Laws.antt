-- What other crates may cite of the lemmas of this one.
pub use Rattle.rg_key_index.proofs.Holding.{overflowed_where_not_guessed}
