-- What other crates may cite of the lemmas of this one.
pub use Rattle.rg_host.proofs.Endings.{ended-append}
pub use Rattle.rg_host.proofs.PutRuns.{puts-nothing, puts-then}
pub use Rattle.rg_host.proofs.Ranges.{length-slice_range}
pub use Rattle.rg_host.proofs.Runs.{becomes-before, becomes-same, becomes-weaker, leaves_all-none, leaves_all-settled, leaves_all-then, leaves_files-none, leaves_files-then, moments-both, moments-none, moments-silent, moments-weaker, moments_then, nothing_pending-kept}
