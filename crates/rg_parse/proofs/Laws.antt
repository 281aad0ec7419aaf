-- What other crates may cite of the lemmas of this one.
pub use Rattle.rg_parse.proofs.One.{one_syntax}
pub use Rattle.rg_parse.proofs.Total.{some_syntax}
