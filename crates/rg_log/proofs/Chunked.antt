-- What is read as a chunk in bytes has events of the columns.
use Rattle.std.proofs.Common.{◌≡◌, ℕ, zero, suc, ◌&&◌, nat_le, List, [], ◌∷◌, ◌++◌, Option, Some, None, Ok, Err, refl, subst}
use Rattle.std.proofs.lemmas.List.Elements.{All-nil, All-push}
use Rattle.std.specs.Prelude.{All}
use Rattle.rg_bytes.specs.Reading.{and_then, tested, u8_at, u32_at, more_at}
use Rattle.rg_event.specs.Codec.{IsEventOf, event_at}
use Rattle.rg_event.specs.Rising.{next_offset, last_time}
use Rattle.rg_event.specs.declared.codec.EventFault.TheVariants.{Short, BadValue}
use Rattle.rg_event.specs.declared.event.Event.{Event}
use Rattle.rg_event.specs.declared.schema.Field.{Field}
use Rattle.rg_frame.specs.Bytes.{IsByte}
use Rattle.rg_column.specs.Columns.{columns_at}
use Rattle.rg_column.specs.Widths.{Reading as ColumnReading}
use Rattle.rg_chunk.specs.Chunks.{event_from_at, next_event_at, events_at, rises_from, in_chunk, rising_columns_at, chunk_at, chunk_of}
use Rattle.rg_chunk.specs.Heads.{layout_said, is_count, headed_at, stamp_at, head_at, is_head_of}
use Rattle.rg_chunk.specs.declared.head.Layout.{Layout}
use Rattle.rg_chunk.specs.declared.head.Layout.TheVariants.{Rows, Columns}
use Rattle.rg_chunk.specs.declared.head.ChunkHead.{ChunkHead}
use Rattle.rg_chunk.proofs.Laws.{whole_is}
use Rattle.rg_log.proofs.Decoded.{both_read, same_pair, passed, event_within, byte_left, count_left, stamp_left}
use Rattle.rg_log.proofs.Columned.{columns_within}

headed_left : (said : Option Layout) (head : ChunkHead) (left : List ℕ) (out : Layout × ChunkHead) (rest : List ℕ) → headed_at said head left ≡ Ok (out, rest) → left ≡ rest
headed_left (Some layout) head left out rest e = (passed (BadValue 0) (is_count head.count) (layout, head) out left rest e).2
headed_left None head left out rest e = absurd cc

head_left : (bytes : List ℕ) (said : Layout × ChunkHead) (left : List ℕ) → All IsByte bytes → head_at bytes ≡ Ok (said, left) → All IsByte left
unfolding head_at
head_left bytes said left small e =
    let a = both_read (u8_at Short bytes) _ said left e in
    let b = both_read (u32_at Short a.left) _ said left a.more in
    let c = both_read (stamp_at b.left) _ said left b.more in
    let d = both_read (stamp_at c.left) _ said left c.more in
    let same = headed_left (layout_said a.value) (record { count = b.value; first_offset = c.value.0; first_time = c.value.1; last_offset = d.value.0; last_time = d.value.1 }) d.left said left d.more in
    subst (λ (l : List ℕ). All IsByte l) same (stamp_left c.left d.value d.left (stamp_left b.left c.value c.left (count_left a.left b.value b.left (byte_left Short bytes a.value a.left small a.is) b.is) c.is) d.is)

from_within : (fields : List Field) (next time : ℕ) (bytes : List ℕ) (event : Event) (left : List ℕ) → All IsByte bytes → event_from_at fields next time bytes ≡ Ok (event, left) → IsEventOf fields event × All IsByte left
unfolding event_from_at
from_within fields next time bytes event left small e =
    let b = both_read (event_at fields bytes) (λ event left. tested (BadValue 0) (nat_le next event.offset && nat_le time event.time) event left) event left e in
    let p = passed (BadValue 0) (nat_le next b.value.offset && nat_le time b.value.time) b.value event b.left left b.more in
    let s = event_within fields bytes b.value b.left small b.is in
    (subst (λ (x : Event). IsEventOf fields x) p.1 s.0, subst (λ (l : List ℕ). All IsByte l) p.2 s.1)

events_within : (fields : List Field) (so_far : List Event) (count : ℕ) (bytes : List ℕ) (events : List Event) (left : List ℕ) → All IsByte bytes → All (IsEventOf fields) so_far → more_at (next_event_at fields) so_far count bytes ≡ Ok (events, left) → All (IsEventOf fields) events
events_within fields so_far zero bytes events left small of e = subst (λ (l : List Event). All (IsEventOf fields) l) (same_pair (Ok (so_far, bytes)) so_far events bytes left refl e).0 of
events_within fields so_far (suc count) bytes events left small of e =
    let b = both_read (next_event_at fields so_far bytes) (λ item rest. more_at (next_event_at fields) (so_far ++ item ∷ []) count rest) events left e in
    let one = from_within fields (next_offset so_far) (last_time so_far) bytes b.value b.left small b.is in
    events_within fields (so_far ++ b.value ∷ []) count b.left events left one.1 (All-push (IsEventOf fields) so_far b.value of one.0) b.more

read_in : (reading : ColumnReading (List Event)) (events : List Event) (left : List ℕ) → in_chunk reading ≡ Ok (events, left) → reading ≡ Ok (events, left)
read_in (Ok read) events left e = let f = same_pair (in_chunk (Ok read)) read.0 events read.1 left refl e in λ i. Ok (f.0 i, f.1 i)
read_in (Err fault) events left e = absurd cc

laid_within : (layout : Layout) (fields : List Field) (count : ℕ) (bytes : List ℕ) (events : List Event) (left : List ℕ) → All IsByte bytes → events_at layout fields count bytes ≡ Ok (events, left) → All (IsEventOf fields) events
unfolding rising_columns_at
laid_within Rows fields count bytes events left small e = events_within fields [] count bytes events left small (All-nil (IsEventOf fields)) e
laid_within Columns fields count bytes events left small e =
    let b = both_read (in_chunk (columns_at fields count bytes)) (λ events left. tested (BadValue 0) (rises_from 0 0 events) events left) events left e in
    let p = passed (BadValue 0) (rises_from 0 0 b.value) b.value events b.left left b.more in
    subst (λ (l : List Event). All (IsEventOf fields) l) p.1 (columns_within fields count bytes b.value b.left small (read_in (columns_at fields count bytes) b.value b.left b.is))

-- the events of a chunk are of the columns
pub chunk_within : (fields : List Field) (payload : List ℕ) (events : List Event) → All IsByte payload → chunk_of fields payload ≡ Some events → All (IsEventOf fields) events
unfolding chunk_at
chunk_within fields payload events small e =
    let a = both_read (head_at payload) (λ said left. and_then (events_at said.0 fields said.1.count left) (λ events rest. tested (BadValue 0) (is_head_of said.1 events) events rest)) events [] (whole_is (chunk_at fields payload) events e) in
    let b = both_read (events_at a.value.0 fields a.value.1.count a.left) (λ events rest. tested (BadValue 0) (is_head_of a.value.1 events) events rest) events [] a.more in
    let p = passed (BadValue 0) (is_head_of a.value.1 b.value) b.value events b.left [] b.more in
    subst (λ (l : List Event). All (IsEventOf fields) l) p.1 (laid_within a.value.0 fields a.value.1.count a.left b.value b.left (head_left payload a.value a.left small a.is) b.is)
