-- What other crates may cite of the lemmas of this one.
pub use Rattle.rg_checkpoint.proofs.Extending.{payload_applies}
pub use Rattle.rg_checkpoint.proofs.Lengthening.{below_two, grown_sizes, only_sizes}
pub use Rattle.rg_checkpoint.proofs.SlotLaws.{kept_apart, none_slot, slot_is_one, slot_told}
