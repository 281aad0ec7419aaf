-- What other crates may cite of the lemmas of this one.
pub use Rattle.rg_agg.proofs.Admitted.{number_admitted}
pub use Rattle.rg_agg.proofs.Fields.{averaged_reads_back, behind_other, behind_read, behind_short, counted_reads_back, end_reads_back, number_value_reads_back, size_behind_read, squared_reads_back, summed_reads_back}
pub use Rattle.rg_agg.proofs.Firsts.{or_second}
pub use Rattle.rg_agg.proofs.Queues.{queued_reads_back}
pub use Rattle.rg_agg.proofs.Served.{admitted_kept, kept_own}
