-- What other crates may cite of the lemmas of this one.
pub use Rattle.rg_bytes.proofs.Decimals.{signed_of-signed_decimal, whole_of-decimal}
pub use Rattle.rg_bytes.proofs.Digits.{decimal_digits}
pub use Rattle.rg_bytes.proofs.Keeping.{kept_added, kept_on, kept_same, kept_through}
pub use Rattle.rg_bytes.proofs.Lists.{StepsBack, list_bytes-more, more_back, step_counted, step_legal, step_stops, step_taken, step_to_come}
pub use Rattle.rg_bytes.proofs.Reading.{agrees_stopped, both_answers, bytes_read, bytes_short, i128_read, i128_short, memory_only, returns_it, u32_read, u32_short, u64_read, u64_short, u8_read, u8_short}
