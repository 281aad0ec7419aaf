-- What other crates may cite of the lemmas of this one.
pub use Rattle.rg_event.proofs.ColumnValues.{one_value_more}
pub use Rattle.rg_event.proofs.Parsed.{in_bounds, number_below, text_fits, value_fits}
pub use Rattle.rg_event.proofs.Readable.{joined_of, legal_of, read_back}
pub use Rattle.rg_event.proofs.Rising.{IsRising-push, last_time-push, next_offset-push}
pub use Rattle.rg_event.proofs.RoundTrip.{event_reads_back}
pub use Rattle.rg_event.proofs.TaggedValues.{prefix_free, tagged_reads_back}
pub use Rattle.rg_event.proofs.Words.{no_text, short_text, text_of_word}
