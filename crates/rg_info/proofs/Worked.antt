-- The lines on a store of three events, byte by byte: the frame of the schema `payments(ts,card:text,merchant:text,amount:int)`,
-- a chunk with the rows `0,c1,m1,100` and `299999,c1,m2,200`, one with `300000,c1,m1,50`, and a closed gate.
use Rattle.std.specs.Prelude.{◌≡◌, ℕ, List, [], ◌∷◌, ◌++◌, codes, Some, None, refl}
use Rattle.std.specs.Fmt.{digits}
use Rattle.std.specs.Str.{is_utf8, chars}
use lib.Utf8.{encode}
use Rattle.rg_bytes.specs.Reading.{bytes_at, u8_at, u32_at, u64_at}
use Rattle.rg_event.specs.Codec.{number_up_to_at, int_at, text_at, event_at}
use Rattle.rg_event.specs.Reading.{field_at, fields_at, shape_at, shape_of}
use Rattle.rg_chunk.specs.Chunks.{event_from_at, chunk_at}
use Rattle.rg_chunk.specs.Heads.{stamp_at, head_at}
use Rattle.rg_dump.specs.Stages.{stages_from}
use Rattle.rg_dump.specs.Dump.{damage_of}
use Rattle.rg_info.specs.Info.{info_lines}
use Rattle.rg_info.specs.Summary.{summary_in}

abbrev schema_frame : List ℕ
schema_frame = 1 ∷ 0 ∷ 0 ∷ 0 ∷ 0 ∷ 0 ∷ 0 ∷ 0 ∷ 48 ∷ 83 ∷ 112 ∷ 97 ∷ 121 ∷ 109 ∷ 101 ∷ 110 ∷ 116 ∷ 115 ∷ 40 ∷ 116 ∷ 115 ∷ 44 ∷ 99 ∷ 97 ∷ 114 ∷ 100 ∷ 58 ∷ 116 ∷ 101 ∷ 120 ∷ 116 ∷ 44 ∷ 109 ∷ 101 ∷ 114 ∷ 99 ∷ 104 ∷ 97 ∷ 110 ∷ 116 ∷ 58 ∷ 116 ∷ 101 ∷ 120 ∷ 116 ∷ 44 ∷ 97 ∷ 109 ∷ 111 ∷ 117 ∷ 110 ∷ 116 ∷ 58 ∷ 105 ∷ 110 ∷ 116 ∷ 41 ∷ []

abbrev two_frame : List ℕ
two_frame = 1 ∷ 0 ∷ 0 ∷ 0 ∷ 0 ∷ 0 ∷ 0 ∷ 0 ∷ 97 ∷ 67 ∷ 0 ∷ 0 ∷ 0 ∷ 2 ∷ 0 ∷ 0 ∷ 0 ∷ 0 ∷ 0 ∷ 0 ∷ 0 ∷ 0 ∷ 0 ∷ 0 ∷ 0 ∷ 0 ∷ 0 ∷ 0 ∷ 0 ∷ 0 ∷ 0 ∷ 0 ∷ 0 ∷ 0 ∷ 0 ∷ 0 ∷ 0 ∷ 1 ∷ 0 ∷ 0 ∷ 0 ∷ 0 ∷ 0 ∷ 4 ∷ 147 ∷ 223 ∷ 0 ∷ 0 ∷ 0 ∷ 0 ∷ 0 ∷ 0 ∷ 0 ∷ 0 ∷ 0 ∷ 0 ∷ 0 ∷ 0 ∷ 0 ∷ 0 ∷ 0 ∷ 0 ∷ 2 ∷ 99 ∷ 49 ∷ 2 ∷ 109 ∷ 49 ∷ 0 ∷ 0 ∷ 0 ∷ 0 ∷ 0 ∷ 0 ∷ 0 ∷ 100 ∷ 0 ∷ 0 ∷ 0 ∷ 0 ∷ 0 ∷ 0 ∷ 0 ∷ 1 ∷ 0 ∷ 0 ∷ 0 ∷ 0 ∷ 0 ∷ 4 ∷ 147 ∷ 223 ∷ 2 ∷ 99 ∷ 49 ∷ 2 ∷ 109 ∷ 50 ∷ 0 ∷ 0 ∷ 0 ∷ 0 ∷ 0 ∷ 0 ∷ 0 ∷ 200 ∷ []

abbrev one_frame : List ℕ
one_frame = 1 ∷ 0 ∷ 0 ∷ 0 ∷ 0 ∷ 0 ∷ 0 ∷ 0 ∷ 67 ∷ 67 ∷ 0 ∷ 0 ∷ 0 ∷ 1 ∷ 0 ∷ 0 ∷ 0 ∷ 0 ∷ 0 ∷ 0 ∷ 0 ∷ 2 ∷ 0 ∷ 0 ∷ 0 ∷ 0 ∷ 0 ∷ 4 ∷ 147 ∷ 224 ∷ 0 ∷ 0 ∷ 0 ∷ 0 ∷ 0 ∷ 0 ∷ 0 ∷ 2 ∷ 0 ∷ 0 ∷ 0 ∷ 0 ∷ 0 ∷ 4 ∷ 147 ∷ 224 ∷ 0 ∷ 0 ∷ 0 ∷ 0 ∷ 0 ∷ 0 ∷ 0 ∷ 2 ∷ 0 ∷ 0 ∷ 0 ∷ 0 ∷ 0 ∷ 4 ∷ 147 ∷ 224 ∷ 2 ∷ 99 ∷ 49 ∷ 2 ∷ 109 ∷ 49 ∷ 0 ∷ 0 ∷ 0 ∷ 0 ∷ 0 ∷ 0 ∷ 0 ∷ 50 ∷ []

abbrev closed : List ℕ
closed = 0 ∷ []

-- with a checkpoint of three events and one query in slot 0
three_events : info_lines (summary_in (schema_frame ++ (two_frame ++ (one_frame ++ closed)))) (Some (record { queries = (113 ∷ []) ∷ []; count = 3; spots = []; rows = [] })) None
    ≡ codes "events 3" ∷ codes "next 3" ∷ codes "time 300000" ∷ codes "frames 3" ∷ codes "slot 0 3 1" ∷ codes "slot 1 none" ∷ []
unfolding stages_from shape_of shape_at fields_at field_at chunk_at head_at stamp_at event_from_at event_at number_up_to_at u8_at u32_at u64_at bytes_at text_at int_at is_utf8 digits chars encode
three_events = refl

-- without a frame
no_frame : info_lines (summary_in []) None None ≡ codes "events 0" ∷ codes "next 0" ∷ codes "time -" ∷ codes "frames 0" ∷ codes "slot 0 none" ∷ codes "slot 1 none" ∷ []
unfolding stages_from digits
no_frame = refl

-- the log is damaged where its last byte is missing
torn_frame : damage_of (schema_frame ++ two_frame) ≡ Some 57
unfolding stages_from shape_of shape_at fields_at field_at chunk_at head_at stamp_at event_from_at event_at number_up_to_at u8_at u32_at u64_at bytes_at text_at int_at is_utf8 chars encode
torn_frame = refl
