-- What other crates may cite of the lemmas of this one.
pub use Rattle.rg_reservoir.proofs.Causes.{look_fault}
pub use Rattle.rg_reservoir.proofs.Committed.{ends_at, fewer, is_chunk, rises}
pub use Rattle.rg_reservoir.proofs.Committing.{log_at}
pub use Rattle.rg_reservoir.proofs.Firsts.{quiet}
pub use Rattle.rg_reservoir.proofs.Legal.{foreign_not_for, in_force_by, is_foreign, not_bad, not_other, not_to_grow, said_in_force, to_grow_framed, to_grow_in_force, unframed_for}
pub use Rattle.rg_reservoir.proofs.Listing.{log_of}
pub use Rattle.rg_reservoir.proofs.Loading.{some_none}
pub use Rattle.rg_reservoir.proofs.Peeking.{err_is, ok_not_err, sound_stays, started}
pub use Rattle.rg_reservoir.proofs.Seeking.{one_image, stored_is}
pub use Rattle.rg_reservoir.proofs.Spelled.{spelled_here, spelled_there}
pub use Rattle.rg_reservoir.proofs.Walking.{schema_step, stage_step, step_known, took_chunk, took_none, walked}
