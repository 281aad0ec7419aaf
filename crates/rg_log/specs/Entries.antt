-- What a frame of a log is, and what the frames up to a place say. Each frame is judged by this one step: by the schema in
-- force, by the head of its payload, or all of it where it is no chunk, and by the chunks before it.
use Rattle.std.specs.Prelude.{◌+◌, nat_le, nat_lt, ◌&&◌, ℕ, Bool, List, [], ◌∷◌, length, Option, Some, None, option_map, option_and_then, if◌then◌else◌}
use Rattle.rg_event.specs.Shapes.{Shape}
use Rattle.rg_event.specs.declared.event.Event.{Event}
use Rattle.rg_event.specs.Rising.{next_offset, last_time}
use Rattle.rg_growth.specs.Payloads.{growth_of}
use Rattle.rg_growth.specs.declared.growth.Growth.{Growth as TheGrowth}
use Rattle.rg_chunk.specs.Chunks.{chunk_of}
use Rattle.rg_chunk.specs.Heads.{head_of}
use Rattle.rg_chunk.specs.declared.head.ChunkHead.{ChunkHead}
use Rattle.rg_log.specs.Payloads.{schema_of}
use Rattle.rg_log.specs.declared.entry.Entry.{Entry}
use Rattle.rg_log.specs.declared.entry.Entry.TheVariants.{Schema, Chunk, Growth}
use Rattle.rg_log.specs.declared.entry.LogSoFar.{LogSoFar}
use Rattle.rg_log.specs.declared.summary.LogSummary.{LogSummary}

-- before the first chunk
abbrev pub nothing : LogSummary
nothing = record { count = 0; next = 0; time = 0 }

-- a chunk may follow those before it, by its head: offsets rise and are below 2^62, times never fall, and there are at most 2^40 events
abbrev pub may_follow : LogSummary → ChunkHead → Bool
may_follow summary head =
    nat_le summary.next head.first_offset && nat_le head.first_offset head.last_offset && nat_lt head.last_offset 4611686018427387904 && nat_le summary.time head.first_time && nat_le head.first_time head.last_time
    && nat_le (summary.count + head.count) 1099511627776

-- with that chunk
abbrev pub added : LogSummary → ChunkHead → LogSummary
added summary head = record { count = summary.count + head.count; next = head.last_offset + 1; time = head.last_time }

-- with that chunk, where one stands there and may follow
abbrev pub told_by : LogSummary → Option ChunkHead → Option LogSummary
told_by summary None = None
told_by summary (Some head) = if may_follow summary head then Some (added summary head) else None

-- that of these events
abbrev pub summary_of : List Event → LogSummary
summary_of events = record { count = length events; next = next_offset events; time = last_time events }

-- before the first frame
abbrev pub unread : LogSoFar
unread = record { schema = None; summary = nothing }

-- where that schema is in force, behind chunks that come to that
abbrev pub behind : Shape → LogSummary → LogSoFar
behind shape summary = record { schema = Some shape; summary = summary }

-- how many events a frame has
abbrev pub count_of : Entry → ℕ
count_of (Schema shape) = 0
count_of (Chunk head) = head.count
count_of (Growth growth) = 0

-- the schema in force behind it
abbrev pub shape_behind : Shape → Entry → Shape
shape_behind shape (Schema other) = other
shape_behind shape (Chunk head) = shape
shape_behind shape (Growth growth) = growth.to

-- a chunk by its head, or else a growth, if it is one
abbrev pub head_or : Option ChunkHead → Option TheGrowth → Option Entry
head_or (Some head) growth = Some (Chunk head)
head_or None growth = option_map (λ (g : TheGrowth). Growth g) growth

-- what the payload of a frame behind the first one is, where that schema is in force: a chunk by its first 37 bytes, and a growth by
-- all of them
abbrev pub further_entry : Shape → List ℕ → Option Entry
further_entry shape payload = head_or (head_of payload) (growth_of shape payload)

-- what a payload is: where no schema is in force it is the schema's, and else that of a further frame
abbrev pub entry_of : Option Shape → List ℕ → Option Entry
entry_of None payload = option_map (λ (shape : Shape). Schema shape) (schema_of payload)
entry_of (Some shape) payload = further_entry shape payload

-- with that frame, where it may follow
abbrev pub with_entry : LogSoFar → Entry → Option LogSoFar
with_entry so_far (Schema shape) = Some (record { schema = Some shape; summary = so_far.summary })
with_entry so_far (Chunk head) = option_map (λ (summary : LogSummary). record { schema = so_far.schema; summary = summary }) (told_by so_far.summary (Some head))
with_entry so_far (Growth growth) = Some (record { schema = Some growth.to; summary = so_far.summary })

-- one step: with the frame of this payload, where it is what its place asks for and may follow
abbrev pub entry_after : LogSoFar → List ℕ → Option LogSoFar
entry_after so_far payload = option_and_then (with_entry so_far) (entry_of so_far.schema payload)

-- with the frames of these payloads
abbrev pub entries_after : LogSoFar → List (List ℕ) → Option LogSoFar
entries_after so_far [] = Some so_far
entries_after so_far (payload ∷ payloads) = option_and_then (λ (next : LogSoFar). entries_after next payloads) (entry_after so_far payload)

-- the events of a chunk that is read whole, by the schema in force
abbrev pub events_by : Option Shape → List ℕ → Option (List Event)
events_by None payload = None
events_by (Some shape) payload = chunk_of shape.fields payload
