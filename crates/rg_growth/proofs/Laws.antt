-- What other crates may cite of the lemmas of this one.
pub use Rattle.rg_growth.proofs.Filled.{none_are, not_itself}
pub use Rattle.rg_growth.proofs.Grown.{grows_by, legal_value, value_of_kind}
pub use Rattle.rg_growth.proofs.Read.{text_taken}
pub use Rattle.rg_growth.proofs.Whole.{growth_back}
