-- The stages and the events of a log as functions of the bytes of its file.
use Rattle.std.specs.Prelude.{◌&&◌, nat_le, nat_lt, ℕ, Bool, true, List, [], ◌∷◌, length, Option, Some, None, option_map, option_and_then, if◌then◌else◌}
use Rattle.rg_event.specs.Rising.{next_offset}
use Rattle.rg_event.specs.Shapes.{Shape}
use Rattle.rg_event.specs.declared.event.Event.{Event}
use Rattle.rg_growth.specs.Payloads.{growth_of}
use Rattle.rg_growth.specs.declared.growth.Growth.{Growth}
use Rattle.rg_frame.specs.FrameList.{payloads_in}
use Rattle.rg_chunk.specs.Chunks.{chunk_of}
pub use Rattle.rg_log.specs.Payloads.{schema_of}
use Rattle.rg_log.specs.Stages.{Stage, chunk, growth, shape_after, logged}

-- the offsets rise strictly and the times never fall
abbrev pub is_rising : List Event → Bool
is_rising [] = true
is_rising (x ∷ []) = true
is_rising (x ∷ (y ∷ events)) = nat_lt x.offset y.offset && nat_le x.time y.time && is_rising (y ∷ events)

-- events that may stand in one log: they rise, and there are at most 2^40
abbrev pub legal_events : List Event → Option (List Event)
legal_events events = if is_rising events && nat_le (length events) 1099511627776 then Some events else None

-- a chunk, or else a growth, if it is one
abbrev pub chunk_or : Option (List Event) → Option Growth → Option Stage
chunk_or (Some events) grown = Some (chunk events)
chunk_or None grown = option_map (λ (g : Growth). growth g) grown

-- the stage that a payload says, where that schema is in force
abbrev pub stage_of : Shape → List ℕ → Option Stage
stage_of shape payload = chunk_or (chunk_of shape.fields payload) (growth_of shape payload)

-- the stages that these payloads say, the first of them where that schema is in force; none where one of them says no stage
abbrev pub stages_from : Shape → List (List ℕ) → Option (List Stage)
stages_from shape [] = Some []
stages_from shape (payload ∷ payloads) =
    option_and_then (λ (stage : Stage). option_map (λ (stages : List Stage). stage ∷ stages) (stages_from (shape_after shape stage) payloads)) (stage_of shape payload)

-- the stages of a frame list: those behind its first payload, which says the schema that the log begins with
abbrev pub listed_stages : List (List ℕ) → Option (List Stage)
listed_stages [] = Some []
listed_stages (first ∷ payloads) = option_and_then (λ (begun : Shape). stages_from begun payloads) (schema_of first)

-- the stages of the log of a file
abbrev pub stages_in : List ℕ → Option (List Stage)
stages_in bytes = option_and_then listed_stages (payloads_in bytes)

-- the events of the log of a file; none where the log isn't legal
abbrev pub events_of : List ℕ → Option (List Event)
events_of bytes = option_and_then (λ (stages : List Stage). legal_events (logged stages)) (stages_in bytes)

-- the least offset that an event behind the log may have: the last one's plus one, and 0 where there is none
abbrev pub next_of : List ℕ → Option ℕ
next_of bytes = option_map next_offset (events_of bytes)
