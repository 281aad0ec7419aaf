-- What other crates may cite of the lemmas of this one.
pub use Rattle.rg_run.proofs.Called.{ended_before, only_none}
pub use Rattle.rg_run.proofs.Faulting.{load_others}
pub use Rattle.rg_run.proofs.Logged.{files_held, files_of, held_then, log_held, no_files}
pub use Rattle.rg_run.proofs.Marking.{due_on, marks_due, none_due, row_due, saves_due, stores_due}
pub use Rattle.rg_run.proofs.Saving.{rest_saved}
pub use Rattle.rg_run.proofs.Stepping.{row_verdict_is}
pub use Rattle.rg_run.proofs.Texts.{as_control, as_header, as_row, no_lf_cleaned}
