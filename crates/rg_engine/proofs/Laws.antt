-- What other crates may cite of the lemmas of this one.
pub use Rattle.rg_engine.proofs.Fed.{hands_of, served_kind}
pub use Rattle.rg_engine.proofs.Lasts.{last_at, not_empty}
pub use Rattle.rg_engine.proofs.Legal.{serves}
pub use Rattle.rg_engine.proofs.Plain.{none_some, same_fault, same_some}
pub use Rattle.rg_engine.proofs.Taken.{all_told, told_later}
pub use Rattle.rg_engine.proofs.Values.{AreOf, vals-append, vals-few, vals-kind}
