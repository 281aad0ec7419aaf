-- What a reservoir keeps of its log, and what is right of it.
use Rattle.std.specs.Prelude.{◌≡◌, ◌⊎◌, ◌≤◌, ◌<◌, ◌+◌, ◌^◌, nat_le, ◌==◌, ℕ, Bool, false, List, [], ◌∷◌, ◌++◌, length, Option, Some, None, slice_get, if◌then◌else◌, min, IsTrue, ◌-◌}
use Rattle.std.specs.List.{AllByRecursion}
use Rattle.rg_host.specs.Image.{Image}
use Rattle.rg_event.specs.declared.event.Event.{Event}
use Rattle.rg_event.specs.declared.schema.Field.{Field}
use Rattle.rg_event.specs.Shapes.{Shape}
use Rattle.rg_event.specs.Codec.{IsEventOf}
use Rattle.rg_event.specs.Rising.{IsRising, next_offset, last_time}
use Rattle.rg_past.specs.declared.past.Spot.{Spot}
use Rattle.rg_frame.specs.Frames.{frames, HasPayloads, EndsAt}
use Rattle.rg_frame.specs.LogState.{LogState}
use Rattle.rg_frame.specs.Looks.{IsClosed}
use Rattle.rg_frame.specs.Steps.{Grows, Grown}
use Rattle.rg_bytes.specs.Counts.{Rose}
use Rattle.rg_cache.specs.Cache.{Cache, item_at, holds_place, places, least_recently_used, touches}
use Rattle.rg_chunk.specs.Chunks.{chunk_bytes}
use Rattle.rg_log.specs.Log.{schema_payload, joined, HasEvents, IsInForce}
use Rattle.rg_log.specs.Stages.{Stage}
use Rattle.rg_reservoir.specs.Chain.{chunk_at, Chain, events_from, padded, IsIllegalBy}
use Rattle.rg_reservoir.specs.GrownViews.{IsViewOf}
use Rattle.rg_reservoir.specs.Views.{View, seen_from, passed}
use Rattle.rg_reservoir.specs.declared.kept.Kept.{Kept}
use Rattle.rg_reservoir.specs.declared.reservoir.Reservoir.{Reservoir}
use Rattle.rg_reservoir.specs.declared.growing.Growing.{Growing}

-- what only a commit changes: the schema, the growths of the log, its file, the place behind its first frame and its end, whether it has ended, and how many events are in it and may be
pub record Base : Type 0 where
  pub shape : Shape
  pub growths : List Growing
  pub file : ℕ
  pub first : ℕ
  pub end : ℕ
  pub ended : Bool
  pub committed : ℕ
  pub limit : ℕ

abbrev pub base : Reservoir → Base
base r = record { shape = r.schema; growths = r.growths; file = r.log.file; first = r.first; end = r.log.end; ended = r.ended; committed = r.committed; limit = r.limit }

-- the log as its end sees it
abbrev pub view_of : Base → View
view_of b = seen_from b.shape b.growths

-- the events of the open chunk, and for how many it has room
abbrev pub opened : Reservoir → List Event
opened r = r.open.events

abbrev pub room_of : Reservoir → ℕ
room_of r = r.open.cap

-- the log of frames below
abbrev pub log_of : Reservoir → LogState
log_of r = r.log

-- the closed chunks in memory, by their places, and how often one was loaded
abbrev pub cache_of : Reservoir → Cache Kept
cache_of r = r.cache

abbrev pub loads_of : Reservoir → ℕ
loads_of r = r.loads

-- the last event's offset plus one, and its time; 0 where there is none
abbrev pub next_of : Reservoir → ℕ
next_of r = r.next_offset

abbrev pub time_of : Reservoir → ℕ
time_of r = r.last_time

-- the events of the log, as the host tells it: just as many as were committed
abbrev pub stored : Option Image → Base → List Event
stored (Some v) b = padded b.committed (events_from (view_of b) b.committed b.first (v b.file))
stored None b = padded b.committed []

-- and then those of the open chunk
abbrev pub all_events : Option Image → Base → List Event → List Event
all_events now b opened = stored now b ++ opened

-- each chunk in the cache is that of its place
abbrev pub IsCached : View → List ℕ → Cache Kept → Type 0
IsCached view bytes cache = (place : ℕ) (kept : Kept) → item_at place cache ≡ Some kept → chunk_at view place bytes ≡ Some (kept.chunk, kept.next)

-- no chunk in the cache goes past that place, so what is written there changes none
abbrev pub IsInside : ℕ → Cache Kept → Type 0
IsInside end cache = (place : ℕ) (kept : Kept) → item_at place cache ≡ Some kept → kept.next ≤ end

-- no chunk stands at that place, or it goes past the end
abbrev pub IsAbsent : View → ℕ → ℕ → List ℕ → Type 0
IsAbsent view place end bytes = (chunk : List Event) (next : ℕ) → chunk_at view place bytes ≡ Some (chunk, next) → end < next

-- events that begin others
abbrev pub IsPrefix : List Event → List Event → Type 0
IsPrefix front events = (more : List Event) × (events ≡ front ++ more)

-- what is kept of the log is that log's, and what is kept of all events is theirs
pub record IsRight (v : Image) (may : Image → Type 0) (b : Base) (opened : List Event) (next time : ℕ) (cache : Cache Kept) : Type 0 where
  pub settled : (u : Image) → may u → u b.file ≡ v b.file
  pub stages : List Stage
  pub view : IsViewOf (view_of b) stages (v b.file)
  pub first_is : b.first ≡ passed b.growths (9 + length (schema_payload view.begun))
  pub chunks : List (List Event)
  pub chain : Chain (view_of b) (v b.file) b.first chunks b.end
  pub ends : IsClosed b.end (v b.file)
  pub payloads : List (List ℕ)
  pub has : HasPayloads payloads (v b.file)
  pub end_is : b.end ≡ length (frames payloads)
  pub legal : HasEvents b.shape (joined chunks) (v b.file)
  pub framed : IsInForce b.shape (v b.file)
  pub counted : length (joined chunks) ≡ b.committed
  pub cached : IsCached (view_of b) (v b.file) cache
  pub inside : IsInside b.end cache
  pub rising : IsRising (all_events (Some v) b opened)
  pub next_is : next ≡ next_offset (all_events (Some v) b opened)
  pub time_is : time ≡ last_time (all_events (Some v) b opened)
  pub fits : AllByRecursion (IsEventOf b.shape.fields) opened
  pub few : b.committed + length opened ≤ 2 ^ 40

-- each crash leaves a legal log that begins with what was committed and goes no further than all events; and what is kept is right, unless the log has ended
pub record IsSoundIn (v : Image) (may : Image → Type 0) (b : Base) (opened : List Event) (next time : ℕ) (cache : Cache Kept) : Type 0 where
  pub each : (u : Image) → may u → (events : List Event) × HasEvents b.shape events (u b.file) × IsInForce b.shape (u b.file) × IsPrefix (stored (Some v) b) events × IsPrefix events (all_events (Some v) b opened)
  pub right : b.ended ≡ false → IsRight v may b opened next time cache

-- the host tells its image, and that holds there
abbrev pub IsSound : Option Image → (Image → Type 0) → Reservoir → Type 0
IsSound now may r = (v : Image) × (now ≡ Some v) × IsSoundIn v may (base r) (opened r) (next_of r) (time_of r) (cache_of r)

-- a chunk stands at that place, and that index in it, or its count, is that number
pub record InChunk (b : Base) (bytes : List ℕ) (place index number : ℕ) : Type 0 where
  pub chunks : List (List Event)
  pub chunk : List Event
  pub next : ℕ
  pub chain : Chain (view_of b) bytes b.first chunks place
  pub here : chunk_at (view_of b) place bytes ≡ Some (chunk, next)
  pub number_is : number ≡ length (joined chunks) + index
  pub most : index ≤ length chunk

-- the place, index and number are those of an event in a chunk
pub record InFront (b : Base) (bytes : List ℕ) (place index number : ℕ) : Type 0 where
  pub chunk : InChunk b bytes place index number
  pub within : index < length chunk.chunk

-- behind the last chunk, where the open chunk would stand
pub record InOpen (b : Base) (place index number : ℕ) : Type 0 where
  pub place_is : place ≡ b.end
  pub number_is : number ≡ b.committed + index

-- how many events there are
abbrev pub count_of : Base → List Event → ℕ
count_of b opened = b.committed + length opened

-- place and index spell the number, and no growth stands at the place
pub record SpellsSettled (now : Option Image) (b : Base) (opened : List Event) (spot : Spot) : Type 0 where
  pub image : Image
  pub told : now ≡ Some image
  pub number : spot.number ≤ count_of b opened
  pub spelling : ((spot.number ≤ b.committed) × InChunk b (image b.file) spot.place spot.index spot.number) ⊎ InOpen b spot.place spot.index spot.number
  pub at : passed b.growths spot.place ≡ spot.place

-- in the later one of two spellings
pub record LaterSettled (now : Option Image) (b : Base) (opened : List Event) (spot : Spot) : Type 0 where
  pub image : Image
  pub told : now ≡ Some image
  pub number : spot.number ≤ count_of b opened
  pub spelling : ((spot.number < b.committed) × InFront b (image b.file) spot.place spot.index spot.number) ⊎ InOpen b spot.place spot.index spot.number

-- the spot behind the growths that stand at its place
abbrev pub settled : Base → Spot → Spot
settled b spot = record { place = passed b.growths spot.place; index = spot.index; number = spot.number }

-- Place and index spell the number. Where growths stand at the place, that is the one behind them, and the index is 0.
pub record Spells (now : Option Image) (b : Base) (opened : List Event) (spot : Spot) : Type 0 where
  pub there : SpellsSettled now b opened (settled b spot)
  pub at : (passed b.growths spot.place ≡ spot.place) ⊎ (spot.index ≡ 0)

-- in the latest one of its spellings
pub record SpellsLater (now : Option Image) (b : Base) (opened : List Event) (spot : Spot) : Type 0 where
  pub there : LaterSettled now b opened spot
  pub at : passed b.growths spot.place ≡ spot.place

-- what stands at a spot, where its chunk is in the cache
abbrev pub seen_in : Option Kept → ℕ → Option Event
seen_in (Some kept) index = slice_get kept.chunk index
seen_in None index = None

abbrev pub seen : ℕ → List Event → Cache Kept → Spot → Option Event
seen committed opened cache spot = if nat_le committed spot.number then slice_get opened spot.index else seen_in (item_at spot.place cache) spot.index

-- all stays but what is in the cache and the loads
pub record Stays (old new : Reservoir) : Type 0 where
  pub base : base new ≡ base old
  pub opened : opened new ≡ opened old
  pub room : room_of new ≡ room_of old
  pub next : next_of new ≡ next_of old
  pub time : time_of new ≡ time_of old
  pub log : log_of new ≡ log_of old
  pub cap : (cache_of new).cap ≡ (cache_of old).cap

-- the next place, where the index is the count of the chunk
abbrev pub next_in : Option Kept → ℕ → Option ℕ
next_in (Some kept) index = if index == length kept.chunk then Some kept.next else None
next_in None index = None

-- the spot is in its later spelling, and shows the event of that number
pub record Found (now : Option Image) (b : Base) (opened : List Event) (cache : Cache Kept) (spot : Spot) (number : ℕ) : Type 0 where
  pub later : LaterSettled now b opened spot
  pub shows : seen b.committed opened cache spot ≡ slice_get (all_events now b opened) number

-- the place of the next chunk, where the index is the count of this one
abbrev pub next_place : Option (List Event × ℕ) → ℕ → List ℕ
next_place (Some chunk) index = if index == length chunk.0 then chunk.1 ∷ [] else []
next_place None index = []

-- the places that a look at a spot touches at whose place no growth stands
abbrev pub look_places : Base → List ℕ → Spot → List ℕ
look_places b bytes spot = if nat_le b.committed spot.number then [] else spot.place ∷ next_place (chunk_at (view_of b) spot.place bytes) spot.index

-- no illegal chunk stands at the spot's place, nor, where the spot is behind the last event of a chunk that lies within the log, at the next place
pub record IsLegalLook (b : Base) (bytes : List ℕ) (spot : Spot) : Type 0 where
  pub here : IsIllegalBy (view_of b) spot.place bytes → ⊥
  pub behind : (chunk : List Event) (next : ℕ) → chunk_at (view_of b) spot.place bytes ≡ Some (chunk, next) → next ≤ b.end → spot.index ≡ length chunk → IsIllegalBy (view_of b) next bytes → ⊥

-- the places that are held after these touches
abbrev pub held_after : Cache Kept → List ℕ → List ℕ
held_after cache [] = places cache
held_after cache (t ∷ ts) = least_recently_used cache.cap (touches cache (t ∷ ts))

-- what a commit of these events may leave of the frame list: the old one, or it and their chunk
abbrev pub Adds : List Field → List Event → List ℕ → List ℕ → Type 0
Adds fields opened old new = (new ≡ old) ⊎ ((1 ≤ length opened) × Grows (chunk_bytes fields opened) old new)

-- the frame list with their chunk behind it, if there are any, which ends at that place
abbrev pub Added : List Field → List Event → ℕ → List ℕ → List ℕ → Type 0
Added fields opened next old new = ((opened ≡ []) × (new ≡ old)) ⊎ ((1 ≤ length opened) × Grown (chunk_bytes fields opened) old new × EndsAt next new)

-- the image's log has the committed events, or these and those of the open chunk
abbrev pub CommittedOrAll : Option Image → Base → List Event → Image → Type 0
CommittedOrAll now b opened image = HasEvents b.shape (stored now b) (image b.file) ⊎ HasEvents b.shape (all_events now b opened) (image b.file)

-- a touch of a place that succeeded: a held place costs nothing, and for another one a frame was read and one load is counted
pub record OneTouch (place : ℕ) (old : Cache Kept) (loads reads : ℕ) (new : Cache Kept) (loads_then reads_then : ℕ) : Type 0 where
  pub places_are : places new ≡ least_recently_used old.cap (touches old (place ∷ []))
  pub cap_stays : new.cap ≡ old.cap
  pub hit : IsTrue (holds_place place old) → (loads_then ≡ loads) × (reads_then ≡ reads)
  pub miss : holds_place place old ≡ false → (loads_then ≡ min (loads + 1) (2 ^ 64 - 1)) × Rose reads reads_then

-- these touches, one after another
abbrev pub AllTouched : List ℕ → Cache Kept → ℕ → ℕ → Cache Kept → ℕ → ℕ → Type 0
AllTouched [] old loads reads new loads_then reads_then = (new ≡ old) × (loads_then ≡ loads) × (reads_then ≡ reads)
AllTouched (place ∷ touched) old loads reads new loads_then reads_then =
    (mid : Cache Kept) × (mid_loads : ℕ) × (mid_reads : ℕ) × OneTouch place old loads reads mid mid_loads mid_reads × AllTouched touched mid mid_loads mid_reads new loads_then reads_then

-- the first of these touches succeeded, one after another, and no other: the loads are theirs; a touch that failed may have read, and nothing else did
pub record IsTouched (wanted : List ℕ) (old : Cache Kept) (loads reads : ℕ) (new : Cache Kept) (loads_then reads_then : ℕ) : Type 0 where
  pub done : List ℕ
  pub left : List ℕ
  pub both : done ++ left ≡ wanted
  pub held : places new ≡ held_after old done
  pub reads_done : ℕ
  pub each : AllTouched done old loads reads new loads_then reads_done
  pub no_fewer : reads_done ≤ reads_then
  pub no_more : left ≡ [] → reads_then ≡ reads_done

-- a look at a spot: all stays but the cache and the loads, and the first of its touches succeeded; over a sound log and a spelled spot all of them, where the look was answered
pub record Looked (now : Option Image) (old : Reservoir) (spot : Spot) (reads reads_then : ℕ) (Answered : Type 0) (new : Reservoir) : Type 0 where
  pub stays : Stays old new
  pub cached : (v : Image) → now ≡ Some v → IsCached (view_of (base old)) (v (base old).file) (cache_of old) → IsCached (view_of (base old)) (v (base old).file) (cache_of new)
  pub inside : IsInside (base old).end (cache_of old) → IsInside (base old).end (cache_of new)
  pub touched : (v : Image) → now ≡ Some v → IsCached (view_of (base old)) (v (base old).file) (cache_of old) → IsTouched (look_places (base old) (v (base old).file) spot) (cache_of old) (loads_of old) reads (cache_of new) (loads_of new) reads_then
  pub loaded : Answered → (v : Image) → now ≡ Some v → AllTouched (look_places (base old) (v (base old).file) spot) (cache_of old) (loads_of old) reads (cache_of new) (loads_of new) reads_then
