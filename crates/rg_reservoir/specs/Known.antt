-- What is known of the chunk that was written last.
use Rattle.std.specs.Prelude.{◌≡◌, List, Option}
use Rattle.std.specs.Option.{ForSome}
use Rattle.rg_event.specs.declared.schema.Field.{Field}
use Rattle.rg_chunk.specs.Chunks.{chunk_bytes}
use Rattle.rg_chunk.specs.Written.{Put}

-- the payload is that of the events, by these columns
abbrev pub IsKnown : List Field → Option Put → Type 0
IsKnown fields written = ForSome written (λ put. put.payload ≡ chunk_bytes fields put.events)
