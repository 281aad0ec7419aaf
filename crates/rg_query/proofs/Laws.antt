-- What other crates may cite of the lemmas of this one.
pub use Rattle.rg_query.proofs.Again.{differ}
pub use Rattle.rg_query.proofs.Asking.{is_asked, no_place}
pub use Rattle.rg_query.proofs.One.{one_query}
pub use Rattle.rg_query.proofs.Total.{says_something}
