-- The head of a chunk: what its first 37 bytes say.
use Rattle.std.specs.Prelude.{◌≡◌, ℕ, ◌≤◌, nat_le, ◌==◌, ◌&&◌, Bool, List, [], ◌∷◌, ◌++◌, length, Option, Some, None, option_map, Result, Ok, Err, if◌then◌else◌}
use Rattle.std.specs.Int.{w32, w64, to_be_bytes}
use Rattle.rg_bytes.specs.Reading.{and_then, tested, u8_at, u32_at, u64_at}
use Rattle.rg_event.specs.Codec.{Reading}
use Rattle.rg_event.specs.declared.codec.EventFault.{EventFault}
use Rattle.rg_event.specs.declared.codec.EventFault.TheVariants.{Short, BadValue}
use Rattle.rg_event.specs.declared.event.Event.{Event}
use Rattle.rg_chunk.specs.declared.head.ChunkHead.{ChunkHead}
use Rattle.rg_chunk.specs.declared.head.Layout.{Layout}
use Rattle.rg_chunk.specs.declared.head.Layout.TheVariants.{Rows, Columns}

-- an offset and a time in 8 bytes each
abbrev pub stamp_bytes : ℕ × ℕ → List ℕ
stamp_bytes stamp = to_be_bytes w64 stamp.0 ++ to_be_bytes w64 stamp.1

-- the byte that says a layout
abbrev pub tag_of : Layout → ℕ
tag_of Rows = 67
tag_of Columns = 75

-- the layout that a byte says, if it says one
abbrev pub layout_said : ℕ → Option Layout
layout_said tag = if tag == 67 then Some Rows else if tag == 75 then Some Columns else None

-- the tag, the count in 4 bytes, and the offset and the time of the first event and of the last
abbrev pub head_bytes : Layout → ChunkHead → List ℕ
head_bytes layout head = tag_of layout ∷ (to_be_bytes w32 head.count ++ (stamp_bytes (head.first_offset, head.first_time) ++ stamp_bytes (head.last_offset, head.last_time)))

-- an offset and a time
unfoldable pub stamp_at : List ℕ → Reading (ℕ × ℕ)
stamp_at bytes = and_then (u64_at Short bytes) (λ offset left. and_then (u64_at Short left) (λ time rest. Ok ((offset, time), rest)))

-- 1 to 4,096
abbrev pub is_count : ℕ → Bool
is_count count = nat_le 1 count && nat_le count 4096

-- a head of a layout that was said, if one was
abbrev pub headed_at : Option Layout → ChunkHead → List ℕ → Reading (Layout × ChunkHead)
headed_at (Some layout) head left = tested (BadValue 0) (is_count head.count) (layout, head) left
headed_at None head left = Err (BadValue 0)

-- a head, and how the events behind it are written
unfoldable pub head_at : List ℕ → Reading (Layout × ChunkHead)
head_at bytes =
    and_then (u8_at Short bytes) (λ tag one.
    and_then (u32_at Short one) (λ count two.
    and_then (stamp_at two) (λ first three.
    and_then (stamp_at three) (λ last rest.
    headed_at (layout_said tag) (record { count = count; first_offset = first.0; first_time = first.1; last_offset = last.0; last_time = last.1 }) rest))))

-- what a call that takes no memory answers and leaves is the reading's
abbrev pub Reads : {A : Type 0} → Reading A → Result A EventFault → List ℕ → Type 0
Reads reading (Ok value) left = reading ≡ Ok (value, left)
Reads reading (Err fault) left = reading ≡ Err fault

-- what was read, whatever is left
abbrev pub begun : {A : Type 0} → Reading A → Option A
begun (Ok read) = Some read.0
begun (Err fault) = None

-- the head that a payload begins with, however its events are written
abbrev pub head_of : List ℕ → Option ChunkHead
head_of payload = option_map (λ (said : Layout × ChunkHead). said.1) (begun (head_at payload))

-- the offset and the time of the first of these events, and 0 where there is none
abbrev pub first_stamp : List Event → ℕ × ℕ
first_stamp [] = (0, 0)
first_stamp (event ∷ events) = (event.offset, event.time)

-- the offset and the time of the last of these events, and 0 where there is none
abbrev pub last_stamp : List Event → ℕ × ℕ
last_stamp [] = (0, 0)
last_stamp (x ∷ []) = (x.offset, x.time)
last_stamp (x ∷ (y ∷ events)) = last_stamp (y ∷ events)

-- the head of a chunk of these events
abbrev pub head_for : List Event → ChunkHead
head_for events =
    record {
      count = length events;
      first_offset = (first_stamp events).0;
      first_time = (first_stamp events).1;
      last_offset = (last_stamp events).0;
      last_time = (last_stamp events).1;
    }

-- the head says how many these events are, and where the first and the last stand
abbrev pub is_head_of : ChunkHead → List Event → Bool
is_head_of head events =
    (head.count == length events) && ((head.first_offset == (first_stamp events).0) && ((head.first_time == (first_stamp events).1)
    && ((head.last_offset == (last_stamp events).0) && (head.last_time == (last_stamp events).1))))

-- a count from 1 to 4,096
pub record IsHead (head : ChunkHead) : Type 0 where
  pub some : 1 ≤ head.count
  pub few : head.count ≤ 4096
