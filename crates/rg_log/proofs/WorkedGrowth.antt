-- A log whose schema grows, byte by byte: the frame of the schema `payments(ts,card:text,merchant:text,amount:int)`, a chunk with the
-- rows `0,c1,m1,100` and `299999,c1,m2,200`, a growth by the column `paid:flag` with the value true, a chunk with the row
-- `300000,c1,m1,50,false`, and a closed gate.
use Rattle.std.specs.Prelude.{◌≡◌, ℕ, Bool, true, false, List, [], ◌∷◌, ◌++◌, length, map, Option, Some, None, option_map, refl}
use Rattle.std.specs.Str.{is_utf8, chars}
use lib.Utf8.{encode}
use Rattle.rg_bytes.specs.Reading.{bytes_at, u8_at, u32_at, u64_at}
use Rattle.rg_event.specs.Codec.{number_up_to_at, int_at, text_at, flag_at, event_at}
use Rattle.rg_event.specs.Reading.{field_at, fields_at, shape_at, shape_of}
use Rattle.rg_event.specs.Tagged.{tagged_at}
use Rattle.rg_event.specs.declared.event.Event.{Event}
use Rattle.rg_event.specs.declared.value.Value.{Value}
use Rattle.rg_event.specs.declared.value.Value.TheVariants.{Flag}
use Rattle.rg_past.specs.declared.past.Spot.{Spot}
use Rattle.rg_growth.specs.Payloads.{growth_at, text_at as growth_text_at, value_at as growth_value_at}
use Rattle.rg_frame.specs.FrameList.{payloads_in}
use Rattle.rg_chunk.specs.Chunks.{event_from_at, chunk_at}
use Rattle.rg_chunk.specs.Heads.{stamp_at, head_at}
use Rattle.rg_log.specs.Reading.{events_of}
use Rattle.rg_log.specs.Spots.{named_by_heads}
use Rattle.rg_log.proofs.Worked.{schema_frame, chunk_frame, closed}

abbrev growth_frame : List ℕ
growth_frame = 1 ∷ 0 ∷ 0 ∷ 0 ∷ 0 ∷ 0 ∷ 0 ∷ 0 ∷ 64 ∷ 71 ∷ 0 ∷ 0 ∷ 0 ∷ 57 ∷ 112 ∷ 97 ∷ 121 ∷ 109 ∷ 101 ∷ 110 ∷ 116 ∷ 115 ∷ 40 ∷ 116 ∷ 115 ∷ 44 ∷ 99 ∷ 97 ∷ 114 ∷ 100 ∷ 58 ∷ 116 ∷ 101 ∷ 120 ∷ 116 ∷ 44 ∷ 109 ∷ 101 ∷ 114 ∷ 99 ∷ 104 ∷ 97 ∷ 110 ∷ 116 ∷ 58 ∷ 116 ∷ 101 ∷ 120 ∷ 116 ∷ 44 ∷ 97 ∷ 109 ∷ 111 ∷ 117 ∷ 110 ∷ 116 ∷ 58 ∷ 105 ∷ 110 ∷ 116 ∷ 44 ∷ 112 ∷ 97 ∷ 105 ∷ 100 ∷ 58 ∷ 102 ∷ 108 ∷ 97 ∷ 103 ∷ 41 ∷ 4 ∷ 1 ∷ []

abbrev wider_chunk : List ℕ
wider_chunk = 1 ∷ 0 ∷ 0 ∷ 0 ∷ 0 ∷ 0 ∷ 0 ∷ 0 ∷ 68 ∷ 67 ∷ 0 ∷ 0 ∷ 0 ∷ 1 ∷ 0 ∷ 0 ∷ 0 ∷ 0 ∷ 0 ∷ 0 ∷ 0 ∷ 2 ∷ 0 ∷ 0 ∷ 0 ∷ 0 ∷ 0 ∷ 4 ∷ 147 ∷ 224 ∷ 0 ∷ 0 ∷ 0 ∷ 0 ∷ 0 ∷ 0 ∷ 0 ∷ 2 ∷ 0 ∷ 0 ∷ 0 ∷ 0 ∷ 0 ∷ 4 ∷ 147 ∷ 224 ∷ 0 ∷ 0 ∷ 0 ∷ 0 ∷ 0 ∷ 0 ∷ 0 ∷ 2 ∷ 0 ∷ 0 ∷ 0 ∷ 0 ∷ 0 ∷ 4 ∷ 147 ∷ 224 ∷ 2 ∷ 99 ∷ 49 ∷ 2 ∷ 109 ∷ 49 ∷ 0 ∷ 0 ∷ 0 ∷ 0 ∷ 0 ∷ 0 ∷ 0 ∷ 50 ∷ 0 ∷ []

abbrev file : List ℕ
file = schema_frame ++ (chunk_frame ++ (growth_frame ++ (wider_chunk ++ closed)))

sizes : length file ≡ 314
sizes = refl

abbrev times : List ℕ → Option (List ℕ)
times bytes = option_map {U = List ℕ} (λ (events : List Event). map (λ (event : Event). event.time) events) (events_of bytes)

abbrev last_of : List Value → Option Value
last_of [] = None
last_of (value ∷ []) = Some value
last_of (value ∷ (next ∷ values)) = last_of (next ∷ values)

abbrev paid : List ℕ → Option (List (Option Value))
paid bytes = option_map {U = List (Option Value)} (λ (events : List Event). map (λ (event : Event). last_of event.values) events) (events_of bytes)

-- three events, of which the first two have the growth's value
three_events : times file ≡ Some (0 ∷ 299999 ∷ 300000 ∷ [])
unfolding shape_of shape_at fields_at field_at growth_at growth_text_at growth_value_at tagged_at flag_at chunk_at head_at stamp_at event_from_at event_at number_up_to_at u8_at u32_at u64_at bytes_at text_at int_at is_utf8 chars encode
three_events = refl

two_are_paid : paid file ≡ Some (Some (Flag true) ∷ Some (Flag true) ∷ Some (Flag false) ∷ [])
unfolding shape_of shape_at fields_at field_at growth_at growth_text_at growth_value_at tagged_at flag_at chunk_at head_at stamp_at event_from_at event_at number_up_to_at u8_at u32_at u64_at bytes_at text_at int_at is_utf8 chars encode
two_are_paid = refl

-- the wider chunk is none before the growth
growth_forgotten : times (schema_frame ++ (chunk_frame ++ (wider_chunk ++ closed))) ≡ None
unfolding shape_of shape_at fields_at field_at growth_at growth_text_at growth_value_at tagged_at flag_at chunk_at head_at stamp_at event_from_at event_at number_up_to_at u8_at u32_at u64_at bytes_at text_at int_at is_utf8 chars encode
growth_forgotten = refl

-- and a schema grows to no schema of as many columns
growth_twice : times (schema_frame ++ (growth_frame ++ (growth_frame ++ closed))) ≡ None
unfolding shape_of shape_at fields_at field_at growth_at growth_text_at growth_value_at tagged_at flag_at chunk_at head_at stamp_at event_from_at event_at number_up_to_at u8_at u32_at u64_at bytes_at text_at int_at is_utf8 chars encode
growth_twice = refl

abbrev named : List ℕ → List Spot → Option (List Bool)
named bytes spots = option_map {U = List Bool} (λ (payloads : List (List ℕ)). map (λ (spot : Spot). named_by_heads payloads spot) spots) (payloads_in bytes)

abbrev spot : ℕ → ℕ → ℕ → Spot
spot place index number = record { place = place; index = index; number = number }

-- the third event has three spellings: behind the first chunk, at the growth and at its own chunk
spots_named : named file (spot 57 0 0 ∷ spot 57 2 2 ∷ spot 163 0 2 ∷ spot 236 0 2 ∷ spot 236 1 3 ∷ spot 313 0 3 ∷ []) ≡ Some (true ∷ true ∷ true ∷ true ∷ true ∷ true ∷ [])
unfolding shape_of shape_at fields_at field_at growth_at growth_text_at growth_value_at tagged_at flag_at head_at stamp_at u8_at u32_at u64_at bytes_at is_utf8 chars encode
spots_named = refl

-- an index behind a growth, another number there, and a place within it
others_not_named : named file (spot 163 1 3 ∷ spot 163 0 3 ∷ spot 164 0 2 ∷ spot 0 0 0 ∷ []) ≡ Some (false ∷ false ∷ false ∷ false ∷ [])
unfolding shape_of shape_at fields_at field_at growth_at growth_text_at growth_value_at tagged_at flag_at head_at stamp_at u8_at u32_at u64_at bytes_at is_utf8 chars encode
others_not_named = refl
