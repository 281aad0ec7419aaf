-- Chunks of events, and their payloads.
use Rattle.std.specs.Prelude.{◌≡◌, ℕ, ◌+◌, ◌^◌, ◌<◌, ◌≤◌, nat_le, ◌&&◌, Bool, true, List, [], ◌∷◌, ◌++◌, length, All, Option, Some, None, Result, Ok, Err, ⊤}
use Rattle.rg_bytes.specs.Reading.{and_then, tested, more_at, list_bytes, whole}
use Rattle.rg_event.specs.Codec.{Reading, IsEventOf, event_at, event_bytes}
use Rattle.rg_event.specs.Rising.{IsRising, next_offset, last_time}
use Rattle.rg_event.specs.declared.codec.EventFault.TheVariants.{BadValue}
use Rattle.rg_event.specs.declared.event.Event.{Event}
use Rattle.rg_event.specs.declared.schema.Field.{Field}
use Rattle.rg_column.specs.Columns.{columns_at, columns_bytes}
use Rattle.rg_column.specs.Widths.{Reading as ColumnReading}
use Rattle.rg_chunk.specs.Faults.{event_fault}
use Rattle.rg_chunk.specs.Heads.{head_at, head_bytes, head_for, is_head_of}
use Rattle.rg_chunk.specs.declared.fault.ChunkFault.{ChunkFault}
use Rattle.rg_chunk.specs.declared.fault.ChunkFault.TheVariants.{BadChunk, Memory}
use Rattle.rg_chunk.specs.declared.head.Layout.{Layout}
use Rattle.rg_chunk.specs.declared.head.Layout.TheVariants.{Rows, Columns}

-- what an open chunk holds: its events, the first one first, and how many there may be
pub record Opened : Type 0 where
  pub events : List Event
  pub cap : ℕ

-- the events of a schema with these columns, one after another or by columns
abbrev pub laid_bytes : Layout → List Field → List Event → List ℕ
laid_bytes Rows fields events = list_bytes event_bytes events
laid_bytes Columns fields events = columns_bytes fields events

-- the payload of a chunk of these events in this layout: the head, and the events
abbrev pub payload_bytes : Layout → List Field → List Event → List ℕ
payload_bytes layout fields events = head_bytes layout (head_for events) ++ laid_bytes layout fields events

-- the payload that is written of these events: they stand by columns
abbrev pub chunk_bytes : List Field → List Event → List ℕ
chunk_bytes fields events = payload_bytes Columns fields events

-- the event's offset is at least this one, and its time is at least this one
abbrev pub follows : Event → ℕ → ℕ → Bool
follows event next time = nat_le next event.offset && nat_le time event.time

-- an event whose offset is at least this one, and whose time is at least this one
unfoldable pub event_from_at : List Field → ℕ → ℕ → List ℕ → Reading Event
event_from_at fields next time bytes = and_then (event_at fields bytes) (λ event left. tested (BadValue 0) (follows event next time) event left)

-- an event whose offset is above the last one's of those so far, and whose time isn't below
abbrev pub next_event_at : List Field → List Event → List ℕ → Reading Event
next_event_at fields so_far bytes = event_from_at fields (next_offset so_far) (last_time so_far) bytes

-- an offset that one can be added to
abbrev pub HasOffset : Event → Type 0
HasOffset event = event.offset < 2 ^ 62

-- the offsets rise from this one on, and the times never fall below this one
abbrev pub rises_from : ℕ → ℕ → List Event → Bool
rises_from next time [] = true
rises_from next time (event ∷ events) = follows event next time && rises_from (event.offset + 1) event.time events

-- a reading of columns, in a chunk
abbrev pub in_chunk : ColumnReading (List Event) → Reading (List Event)
in_chunk (Ok read) = Ok read
in_chunk (Err fault) = Err (event_fault fault)

-- so many events by columns, of which the offsets rise and the times never fall
unfoldable pub rising_columns_at : List Field → ℕ → List ℕ → Reading (List Event)
rising_columns_at fields count bytes = and_then (in_chunk (columns_at fields count bytes)) (λ events left. tested (BadValue 0) (rises_from 0 0 events) events left)

-- so many events in this layout
abbrev pub events_at : Layout → List Field → ℕ → List ℕ → Reading (List Event)
events_at Rows fields count bytes = more_at (next_event_at fields) [] count bytes
events_at Columns fields count bytes = rising_columns_at fields count bytes

-- a head, and so many events as it says, which agree with it
unfoldable pub chunk_at : List Field → List ℕ → Reading (List Event)
chunk_at fields bytes =
    and_then (head_at bytes) (λ said left.
    and_then (events_at said.0 fields said.1.count left) (λ events rest.
    tested (BadValue 0) (is_head_of said.1 events) events rest))

-- the events of a chunk payload of events with these columns; none where it is no chunk payload
abbrev pub chunk_of : List Field → List ℕ → Option (List Event)
chunk_of fields payload = whole (chunk_at fields payload)

-- events that a chunk may have: 1 to 4,096, with these columns, of which the offsets rise and the times never fall
pub record IsChunk (fields : List Field) (events : List Event) : Type 0 where
  pub legal : All (IsEventOf fields) events
  pub rising : IsRising events
  pub some : 1 ≤ length events
  pub few : length events ≤ 4096

-- what is answered is what the payload says, or memory ran out
abbrev pub Agrees : Option (List Event) → Result (List Event) ChunkFault → Type 0
Agrees said (Ok events) = said ≡ Some events
Agrees said (Err BadChunk) = said ≡ None
Agrees said (Err Memory) = ⊤
