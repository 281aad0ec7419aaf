use Rattle.rg_chunk.specs.declared.head.Layout.TheVariants.{Columns}
use Rattle.rg_chunk.proofs.Chunks.{chunk_back}
use Rattle.rg_chunk.proofs.open.OpenChunk.encode.Goals as goal

pub returns-in-Ok-clause-reads_back : goal.returns-in-Ok-clause-reads_back
returns-in-Ok-clause-reads_back c = chunk_back Columns

pub returns-in-Err-clause-reads_back : goal.returns-in-Err-clause-reads_back
returns-in-Err-clause-reads_back c = chunk_back Columns
