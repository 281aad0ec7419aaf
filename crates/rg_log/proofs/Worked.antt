-- A log of two events, byte by byte: the frame of the schema `payments(ts,card:text,merchant:text,amount:int)`, a chunk with
-- the rows `0,c1,m1,100` and `299999,c1,m2,200` at offsets 0 and 1, one after another or by columns, and a closed gate.
use Rattle.std.specs.Prelude.{◌≡◌, ℕ, Bool, true, false, List, [], ◌∷◌, ◌++◌, length, map, Option, Some, None, option_map, refl}
use Rattle.std.specs.Str.{is_utf8, chars}
use lib.Utf8.{encode}
use Rattle.rg_bytes.specs.Reading.{bytes_at, u8_at, u32_at, u64_at}
use Rattle.rg_event.specs.Codec.{number_up_to_at, int_at, text_at, event_at}
use Rattle.rg_event.specs.Reading.{field_at, fields_at, shape_at, shape_of}
use Rattle.rg_event.specs.declared.event.Event.{Event}
use Rattle.rg_past.specs.declared.past.Spot.{Spot}
use Rattle.rg_growth.specs.Payloads.{growth_at, text_at as growth_text_at}
use Rattle.rg_frame.specs.FrameList.{payloads_in}
use Rattle.rg_column.specs.Columns.{columns_at}
use Rattle.rg_column.specs.Numbers.{numbers_at, packed_at}
use Rattle.rg_column.specs.Values.{ints_at, texts_at, text_at as column_text_at}
use Rattle.rg_column.specs.Widths.{difference_at}
use Rattle.rg_chunk.specs.Chunks.{event_from_at, rising_columns_at, chunk_at}
use Rattle.rg_chunk.specs.Heads.{stamp_at, head_at}
use Rattle.rg_log.specs.Reading.{events_of, next_of}
use Rattle.rg_log.specs.Spots.{named_by_heads}

abbrev pub schema_frame : List ℕ
schema_frame = 1 ∷ 0 ∷ 0 ∷ 0 ∷ 0 ∷ 0 ∷ 0 ∷ 0 ∷ 48 ∷ 83 ∷ 112 ∷ 97 ∷ 121 ∷ 109 ∷ 101 ∷ 110 ∷ 116 ∷ 115 ∷ 40 ∷ 116 ∷ 115 ∷ 44 ∷ 99 ∷ 97 ∷ 114 ∷ 100 ∷ 58 ∷ 116 ∷ 101 ∷ 120 ∷ 116 ∷ 44 ∷ 109 ∷ 101 ∷ 114 ∷ 99 ∷ 104 ∷ 97 ∷ 110 ∷ 116 ∷ 58 ∷ 116 ∷ 101 ∷ 120 ∷ 116 ∷ 44 ∷ 97 ∷ 109 ∷ 111 ∷ 117 ∷ 110 ∷ 116 ∷ 58 ∷ 105 ∷ 110 ∷ 116 ∷ 41 ∷ []

abbrev pub chunk_frame : List ℕ
chunk_frame = 1 ∷ 0 ∷ 0 ∷ 0 ∷ 0 ∷ 0 ∷ 0 ∷ 0 ∷ 97 ∷ 67 ∷ 0 ∷ 0 ∷ 0 ∷ 2 ∷ 0 ∷ 0 ∷ 0 ∷ 0 ∷ 0 ∷ 0 ∷ 0 ∷ 0 ∷ 0 ∷ 0 ∷ 0 ∷ 0 ∷ 0 ∷ 0 ∷ 0 ∷ 0 ∷ 0 ∷ 0 ∷ 0 ∷ 0 ∷ 0 ∷ 0 ∷ 0 ∷ 1 ∷ 0 ∷ 0 ∷ 0 ∷ 0 ∷ 0 ∷ 4 ∷ 147 ∷ 223 ∷ 0 ∷ 0 ∷ 0 ∷ 0 ∷ 0 ∷ 0 ∷ 0 ∷ 0 ∷ 0 ∷ 0 ∷ 0 ∷ 0 ∷ 0 ∷ 0 ∷ 0 ∷ 0 ∷ 2 ∷ 99 ∷ 49 ∷ 2 ∷ 109 ∷ 49 ∷ 0 ∷ 0 ∷ 0 ∷ 0 ∷ 0 ∷ 0 ∷ 0 ∷ 100 ∷ 0 ∷ 0 ∷ 0 ∷ 0 ∷ 0 ∷ 0 ∷ 0 ∷ 1 ∷ 0 ∷ 0 ∷ 0 ∷ 0 ∷ 0 ∷ 4 ∷ 147 ∷ 223 ∷ 2 ∷ 99 ∷ 49 ∷ 2 ∷ 109 ∷ 50 ∷ 0 ∷ 0 ∷ 0 ∷ 0 ∷ 0 ∷ 0 ∷ 0 ∷ 200 ∷ []

-- the same chunk by columns
abbrev columns_frame : List ℕ
columns_frame = 1 ∷ 0 ∷ 0 ∷ 0 ∷ 0 ∷ 0 ∷ 0 ∷ 0 ∷ 88 ∷ 75 ∷ 0 ∷ 0 ∷ 0 ∷ 2 ∷ 0 ∷ 0 ∷ 0 ∷ 0 ∷ 0 ∷ 0 ∷ 0 ∷ 0 ∷ 0 ∷ 0 ∷ 0 ∷ 0 ∷ 0 ∷ 0 ∷ 0 ∷ 0 ∷ 0 ∷ 0 ∷ 0 ∷ 0 ∷ 0 ∷ 0 ∷ 0 ∷ 1 ∷ 0 ∷ 0 ∷ 0 ∷ 0 ∷ 0 ∷ 4 ∷ 147 ∷ 223 ∷ 0 ∷ 0 ∷ 0 ∷ 0 ∷ 0 ∷ 0 ∷ 0 ∷ 0 ∷ 1 ∷ 0 ∷ 1 ∷ 0 ∷ 0 ∷ 0 ∷ 0 ∷ 0 ∷ 0 ∷ 0 ∷ 0 ∷ 4 ∷ 0 ∷ 0 ∷ 0 ∷ 0 ∷ 0 ∷ 4 ∷ 147 ∷ 223 ∷ 2 ∷ 2 ∷ 99 ∷ 49 ∷ 99 ∷ 49 ∷ 2 ∷ 2 ∷ 109 ∷ 49 ∷ 109 ∷ 50 ∷ 0 ∷ 0 ∷ 0 ∷ 0 ∷ 0 ∷ 0 ∷ 0 ∷ 100 ∷ 1 ∷ 0 ∷ 100 ∷ []

abbrev pub closed : List ℕ
closed = 0 ∷ []

abbrev file : List ℕ
file = schema_frame ++ (chunk_frame ++ closed)

sizes : length file ≡ 164
sizes = refl

-- two frames
two_frames : option_map {U = List ℕ} (λ (payloads : List (List ℕ)). map (λ (payload : List ℕ). length payload) payloads) (payloads_in file) ≡ Some (48 ∷ 97 ∷ [])
two_frames = refl

abbrev offsets : List ℕ → Option (List ℕ)
offsets bytes = option_map {U = List ℕ} (λ (events : List Event). map (λ (event : Event). event.offset) events) (events_of bytes)

abbrev times : List ℕ → Option (List ℕ)
times bytes = option_map {U = List ℕ} (λ (events : List Event). map (λ (event : Event). event.time) events) (events_of bytes)

-- their events
two_events : times file ≡ Some (0 ∷ 299999 ∷ [])
unfolding shape_of shape_at fields_at field_at chunk_at head_at stamp_at event_from_at event_at number_up_to_at u8_at u32_at u64_at bytes_at text_at int_at is_utf8 chars encode
two_events = refl

offsets_rise : offsets file ≡ Some (0 ∷ 1 ∷ [])
unfolding shape_of shape_at fields_at field_at chunk_at head_at stamp_at event_from_at event_at number_up_to_at u8_at u32_at u64_at bytes_at text_at int_at is_utf8 chars encode
offsets_rise = refl

-- by columns they are the same
abbrev column_file : List ℕ
column_file = schema_frame ++ (columns_frame ++ closed)

column_size : length column_file ≡ 155
column_size = refl

same_events : events_of column_file ≡ events_of file
unfolding shape_of shape_at fields_at field_at chunk_at head_at stamp_at event_from_at event_at number_up_to_at rising_columns_at columns_at numbers_at packed_at difference_at ints_at texts_at u8_at u32_at u64_at bytes_at text_at column_text_at int_at is_utf8 chars encode
same_events = refl

next_is_two : next_of file ≡ Some 2
unfolding shape_of shape_at fields_at field_at chunk_at head_at stamp_at event_from_at event_at number_up_to_at u8_at u32_at u64_at bytes_at text_at int_at is_utf8 chars encode
next_is_two = refl

-- what stands behind a closed gate is not read
gate_closed : times (schema_frame ++ (closed ++ chunk_frame)) ≡ Some []
unfolding shape_of shape_at fields_at field_at chunk_at head_at stamp_at event_from_at event_at number_up_to_at u8_at u32_at u64_at bytes_at text_at int_at is_utf8 chars encode
gate_closed = refl

-- a file of at most one byte has no frame, and so no event
no_frame : events_of (1 ∷ []) ≡ Some []
no_frame = refl

-- an open gate with no whole frame behind it
torn_frame : events_of (schema_frame ++ 1 ∷ 0 ∷ []) ≡ None
unfolding shape_of shape_at fields_at field_at chunk_at head_at stamp_at event_from_at event_at number_up_to_at u8_at u32_at u64_at bytes_at text_at int_at is_utf8 chars encode
torn_frame = refl

-- the offsets don't rise from the first chunk to the second
chunk_twice : events_of (schema_frame ++ (chunk_frame ++ (chunk_frame ++ closed))) ≡ None
unfolding shape_of shape_at fields_at field_at chunk_at head_at stamp_at event_from_at event_at number_up_to_at u8_at u32_at u64_at bytes_at text_at int_at is_utf8 chars encode
chunk_twice = refl

-- no schema stands in the first frame
no_schema : events_of (chunk_frame ++ closed) ≡ None
unfolding shape_of shape_at fields_at field_at chunk_at head_at stamp_at event_from_at event_at number_up_to_at u8_at u32_at u64_at bytes_at text_at int_at is_utf8 chars encode
no_schema = refl

-- the schema's frame stands where a chunk or a growth has to
schema_twice : events_of (schema_frame ++ (schema_frame ++ closed)) ≡ None
unfolding shape_of shape_at fields_at field_at growth_at growth_text_at chunk_at head_at stamp_at event_from_at event_at number_up_to_at u8_at u32_at u64_at bytes_at text_at int_at is_utf8 chars encode
schema_twice = refl

abbrev named : List ℕ → List Spot → Option (List Bool)
named bytes spots = option_map {U = List Bool} (λ (payloads : List (List ℕ)). map (λ (spot : Spot). named_by_heads payloads spot) spots) (payloads_in bytes)

abbrev spot : ℕ → ℕ → ℕ → Spot
spot place index number = record { place = place; index = index; number = number }

-- both events, and the end in its two spellings
spots_named : named file (spot 57 0 0 ∷ spot 57 1 1 ∷ spot 57 2 2 ∷ spot 163 0 2 ∷ []) ≡ Some (true ∷ true ∷ true ∷ true ∷ [])
unfolding shape_of shape_at fields_at field_at head_at stamp_at u8_at u32_at u64_at bytes_at is_utf8 chars encode
spots_named = refl

-- another number, an index behind the chunk's end, a place that is no gate's, the schema's frame, another index at the end
others_not_named : named file (spot 57 1 0 ∷ spot 57 3 3 ∷ spot 58 0 0 ∷ spot 0 0 0 ∷ spot 163 1 2 ∷ []) ≡ Some (false ∷ false ∷ false ∷ false ∷ false ∷ [])
unfolding shape_of shape_at fields_at field_at head_at stamp_at u8_at u32_at u64_at bytes_at is_utf8 chars encode
others_not_named = refl

-- without a chunk the end stands behind the schema's frame; without a frame nothing is named
end_without_chunk : named (schema_frame ++ closed) (spot 57 0 0 ∷ spot 0 0 0 ∷ []) ≡ Some (true ∷ false ∷ [])
unfolding shape_of shape_at fields_at field_at is_utf8 chars encode
end_without_chunk = refl

nothing_named : named [] (spot 0 0 0 ∷ []) ≡ Some (false ∷ [])
nothing_named = refl
