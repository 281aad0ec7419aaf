-- The log of a file as it was before schemas grew: behind the frame of its one schema, chunks alone.
use Rattle.std.specs.Prelude.{◌≡◌, ◌≤◌, ◌^◌, ℕ, List, [], ◌∷◌, length, Option, Some, None, All}
use Rattle.rg_event.specs.Codec.{IsEventOf}
use Rattle.rg_event.specs.Rising.{IsRising}
use Rattle.rg_event.specs.Shapes.{Shape, IsSchema}
use Rattle.rg_event.specs.declared.event.Event.{Event}
use Rattle.rg_event.specs.declared.schema.Field.{Field}
use Rattle.rg_frame.specs.Frames.{HasPayloads}
use Rattle.rg_chunk.specs.Chunks.{chunk_of}
use Rattle.rg_log.specs.Payloads.{schema_payload, joined}

-- a chunk before others, where it and they are there
abbrev pub with_chunk : Option (List Event) → Option (List (List Event)) → Option (List (List Event))
with_chunk None chunks = None
with_chunk (Some chunk) None = None
with_chunk (Some chunk) (Some chunks) = Some (chunk ∷ chunks)

-- the chunks that these payloads say; none where one of them says no chunk
abbrev pub chunks_of : List Field → List (List ℕ) → Option (List (List Event))
chunks_of columns [] = Some []
chunks_of columns (payload ∷ payloads) = with_chunk (chunk_of columns payload) (chunks_of columns payloads)

-- this is the frame list of a log of that schema with these chunks; one without a frame has no chunk
abbrev pub HasChunks : Shape → List (List ℕ) → List (List Event) → Type 0
HasChunks shape [] chunks = chunks ≡ []
HasChunks shape (first ∷ payloads) chunks = (first ≡ schema_payload shape) × (chunks_of shape.fields payloads ≡ Some chunks)

-- The file is a legal log of that schema with these chunks and no growth: their events are of the schema, they continue each other, so
-- that offsets rise and times never fall, and there are at most 2^40 of them.
pub record IsPlainLog (shape : Shape) (chunks : List (List Event)) (bytes : List ℕ) : Type 0 where
  pub schema : IsSchema shape
  pub payloads : List (List ℕ)
  pub has : HasPayloads payloads bytes
  pub log : HasChunks shape payloads chunks
  pub of : All (IsEventOf shape.fields) (joined chunks)
  pub rising : IsRising (joined chunks)
  pub few : length (joined chunks) ≤ 2 ^ 40

-- the file is a legal log of that schema, without a growth, with these events
abbrev pub HasPlainEvents : Shape → List Event → List ℕ → Type 0
HasPlainEvents shape events bytes = (chunks : List (List Event)) × IsPlainLog shape chunks bytes × (joined chunks ≡ events)
