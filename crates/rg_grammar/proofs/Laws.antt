-- What other crates may cite of the lemmas of this one.
pub use Rattle.rg_grammar.proofs.Complete.{found_reads, one_query}
pub use Rattle.rg_grammar.proofs.Erase.{found_again}
pub use Rattle.rg_grammar.proofs.Exact.{exact, exact_depth_in, exact_depth_only, exact_only}
pub use Rattle.rg_grammar.proofs.PrintedQuery.{found_writable, span_is, written_found}
pub use Rattle.rg_grammar.proofs.Sound.{sound}
