-- What other crates may cite of the lemmas of this one.
pub use Rattle.rg_dump.proofs.Behind.{events_push}
pub use Rattle.rg_dump.proofs.Leaves.{read-none, read-then}
pub use Rattle.rg_dump.proofs.Legal.{ReadsAs, empty_stages, legal_read, legal_stages, read_events}
pub use Rattle.rg_dump.proofs.Quiet.{puts_nothing}
pub use Rattle.rg_dump.proofs.Walking.{IsAt, at_damage, at_end, at_next, at_start}
