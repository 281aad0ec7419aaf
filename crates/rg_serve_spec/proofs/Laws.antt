-- What other crates may cite of the lemmas of this one.
pub use Rattle.rg_serve_spec.proofs.Joined.{next_within}
pub use Rattle.rg_serve_spec.proofs.Putting.{frames-append, lines-append, reads_some}
pub use Rattle.rg_serve_spec.proofs.Reading.{lines_all}
