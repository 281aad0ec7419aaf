-- What other crates may cite of the lemmas of this one.
pub use Rattle.rg_column.proofs.Packing.{length_map, raised_are}
pub use Rattle.rg_column.proofs.Transposed.{column_legal, columns_back, started_legal, started_many, widened_many}
pub use Rattle.rg_column.proofs.Typed.{ids_legal, ints_legal}
