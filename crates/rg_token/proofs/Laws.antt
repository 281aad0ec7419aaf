-- What other crates may cite of the lemmas of this one.
pub use Rattle.rg_token.proofs.Laid.{laid}
pub use Rattle.rg_token.proofs.Total.{LexesFrom, lexes_whole}
pub use Rattle.rg_token.proofs.Unique.{one_lexing}
