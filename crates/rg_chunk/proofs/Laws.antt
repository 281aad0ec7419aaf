-- What other crates may cite of the lemmas of this one.
pub use Rattle.rg_chunk.proofs.Chunks.{chunk_back, chunk_head, whole_is}
pub use Rattle.rg_chunk.proofs.Heads.{count_parts}
