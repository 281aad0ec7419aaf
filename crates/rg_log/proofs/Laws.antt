-- What other crates may cite of the lemmas of this one.
pub use Rattle.rg_log.proofs.ChunkHeads.{chunk_size}
pub use Rattle.rg_log.proofs.Entries.{behind_is, counted, entry_for, entry_said, first, growth_step, only_first}
pub use Rattle.rg_log.proofs.Extending.{extended-append, extended-none, extended-twice, length-extended, next-extended, time-extended}
pub use Rattle.rg_log.proofs.Filled.{events_in, few_for, for_legal, grown_for, grows_for, growth_said, of_for, own_events, rising_for, schema_for, unframed_events}
pub use Rattle.rg_log.proofs.Folds.{entries_append, entries_push, legal, says, says_in_force, two_steps}
pub use Rattle.rg_log.proofs.Growing.{added_log, adds_log, begins_log, begun_log, grows_log, in_force_of, one_list, one_schema}
pub use Rattle.rg_log.proofs.Naming.{at_end_is, in_chunk_is, named_in}
pub use Rattle.rg_log.proofs.Plain.{as_before}
pub use Rattle.rg_log.proofs.Reading.{schema_said}
pub use Rattle.rg_log.proofs.Shapes.{head_same, one_shape, rest_same}
pub use Rattle.rg_log.proofs.Spelling.{after_of, spot_stays_in}
pub use Rattle.rg_log.proofs.StageReading.{growth_headless, growth_read, one_stage}
pub use Rattle.rg_log.proofs.Staging.{events_of_schema, has-push, part}
