-- What other crates may cite of the lemmas of this one.
pub use Rattle.rg_pipe.proofs.Chains.{stream_ended, stream_fed, stream_handed, stream_refused}
pub use Rattle.rg_pipe.proofs.Handings.{next_line}
pub use Rattle.rg_pipe.proofs.Requests.{length_of, part_short}
