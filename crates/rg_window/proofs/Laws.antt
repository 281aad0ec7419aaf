-- What other crates may cite of the lemmas of this one.
pub use Rattle.rg_window.proofs.Chains.{at_edge-append}
pub use Rattle.rg_window.proofs.Passes.{edge_by_edge-join}
