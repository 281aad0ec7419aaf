-- What other crates may cite of the lemmas of this one.
pub use Rattle.rg_restore.proofs.Joining.{node_later}
pub use Rattle.rg_restore.proofs.Listing.{free, none_listed, one_more, one_table, rising_front}
pub use Rattle.rg_restore.proofs.Placing.{all_later, are_at, node_stands, node_told, spelled_in}
pub use Rattle.rg_restore.proofs.RowKinds.{truthful_fits}
pub use Rattle.rg_restore.proofs.Saving.{later, same_past, saved}
pub use Rattle.rg_restore.proofs.Standing.{carries, stands}
pub use Rattle.rg_restore.proofs.Trying.{fit_same}
