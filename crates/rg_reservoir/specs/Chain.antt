-- The chunks of a log, one after another.
use Rattle.std.specs.Prelude.{◌≡◌, ◌<◌, ◌+◌, ℕ, zero, suc, List, [], ◌∷◌, ◌++◌, length, drop, Option, Some, None, option_map, option_and_then}
use Rattle.rg_event.specs.declared.event.Event.{Event}
use Rattle.rg_event.specs.declared.schema.Field.{Field}
use Rattle.rg_frame.specs.Frames.{payload_at}
use Rattle.rg_chunk.specs.Chunks.{chunk_of}
use Rattle.rg_reservoir.specs.Views.{View, shape_at, grown_at, passed}

-- the events of a payload's chunk at a place, as the log's end sees them, and the place where the next chunk stands
abbrev pub chunk_in : View → ℕ → Option (List ℕ) → Option (List Event × ℕ)
chunk_in view place None = None
chunk_in view place (Some payload) = option_map (λ events. (grown_at view.growths place events, passed view.growths (place + 9 + length payload))) (chunk_of (shape_at view place).fields payload)

-- the events of the chunk at a place of a file, and the place where the next one stands
abbrev pub chunk_at : View → ℕ → List ℕ → Option (List Event × ℕ)
chunk_at view place bytes = chunk_in view place (payload_at place bytes)

-- these chunks stand from that place on, one after another, and end there
abbrev pub Chain : View → List ℕ → ℕ → List (List Event) → ℕ → Type 0
Chain view bytes place [] end = place ≡ end
Chain view bytes place (chunk ∷ chunks) end = (next : ℕ) × (chunk_at view place bytes ≡ Some (chunk, next)) × Chain view bytes next chunks end

-- an open gate stands at that place, and behind it no legal chunk of these columns
pub record IsIllegal (fields : List Field) (place : ℕ) (bytes : List ℕ) : Type 0 where
  pub rest : List ℕ
  pub is : drop place bytes ≡ 1 ∷ rest
  pub longer : 1 < length bytes
  pub none : option_and_then (chunk_of fields) (payload_at place bytes) ≡ None

-- the place is illegal by the schema that the view has in force there
abbrev pub IsIllegalBy : View → ℕ → List ℕ → Type 0
IsIllegalBy view place bytes = IsIllegal (shape_at view place).fields place bytes

-- a chunk's events, and then what stands from the next place on
abbrev pub with_chunk : Option (List Event × ℕ) → (ℕ → List Event) → List Event
with_chunk None more = []
with_chunk (Some (events, next)) more = events ++ more next

-- the events of at most so many chunks from that place on
abbrev pub events_from : View → ℕ → ℕ → List ℕ → List Event
events_from view zero place bytes = []
events_from view (suc most) place bytes = with_chunk (chunk_at view place bytes) (λ next. events_from view most next bytes)

-- an event that nobody stored
abbrev pub blank : Event
blank = record { offset = 0; time = 0; values = [] }

-- just so many events: the first of these, and then blank ones
abbrev pub padded : ℕ → List Event → List Event
padded zero events = []
padded (suc count) [] = blank ∷ padded count []
padded (suc count) (event ∷ events) = event ∷ padded count events
