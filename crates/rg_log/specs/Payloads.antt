-- What the payloads of a log say: that of its first frame the schema that it begins with, and each further one a chunk of events or
-- how the schema grows.
use Rattle.std.specs.Prelude.{◌≡◌, ◌==◌, ℕ, List, [], ◌∷◌, ◌++◌, Option, Some, None, All, if◌then◌else◌}
use Rattle.rg_event.specs.Codec.{IsEventOf}
use Rattle.rg_event.specs.Reading.{shape_of}
use Rattle.rg_event.specs.Shapes.{Shape, schema_text}
use Rattle.rg_event.specs.declared.event.Event.{Event}
use Rattle.rg_chunk.specs.Chunks.{chunk_of}

-- the payload of the schema's frame: the byte 53, and the text of the schema
abbrev pub schema_payload : Shape → List ℕ
schema_payload shape = 83 ∷ schema_text shape

-- the schema that a payload says
abbrev pub schema_of : List ℕ → Option Shape
schema_of [] = None
schema_of (tag ∷ text) = if tag == 83 then shape_of text else None

-- the payload is a chunk of these events, which are of that schema
pub record IsChunkOf (shape : Shape) (payload : List ℕ) (chunk : List Event) : Type 0 where
  pub said : chunk_of shape.fields payload ≡ Some chunk
  pub of : All (IsEventOf shape.fields) chunk

-- the events of these chunks, one after another
abbrev pub joined : List (List Event) → List Event
joined [] = []
joined (chunk ∷ chunks) = chunk ++ joined chunks
