-- Spots of a log: which place and index name which event, or the end.
use Rattle.std.specs.Prelude.{◌≡◌, ◌⊎◌, ◌+◌, ◌≤◌, ◌==◌, ◌&&◌, ◌||◌, nat_le, ℕ, Bool, false, List, [], ◌∷◌, ◌++◌, length, slice_get, Option, Some, None, IsTrue}
use Rattle.rg_event.specs.Shapes.{Shape, IsSchema}
use Rattle.rg_event.specs.declared.event.Event.{Event}
use Rattle.rg_past.specs.declared.past.Spot.{Spot}
use Rattle.rg_frame.specs.Frames.{frames, HasPayloads}
use Rattle.rg_chunk.specs.Extended.{all_extended}
use Rattle.rg_log.specs.Entries.{count_of, shape_behind, further_entry}
use Rattle.rg_log.specs.Payloads.{schema_payload, schema_of, IsChunkOf}
use Rattle.rg_log.specs.Stages.{Stage, in_force, AreStages, values_of, logged}
use Rattle.rg_log.specs.declared.entry.Entry.{Entry}

-- A chunk stands at the spot's place. The spot's number is that of the event at its index there, or, where the index is the chunk's
-- count, of what follows the chunk.
pub record IsInChunk (payloads : List (List ℕ)) (spot : Spot) : Type 0 where
  pub begun : Shape
  pub schema : IsSchema begun
  pub earlier : List (List ℕ)
  pub payload : List ℕ
  pub later : List (List ℕ)
  pub before : List Stage
  pub chunk : List Event
  pub is : payloads ≡ schema_payload begun ∷ (earlier ++ payload ∷ later)
  pub before_are : AreStages begun earlier before
  pub chunk_is : IsChunkOf (in_force begun before) payload chunk
  pub place_is : spot.place ≡ length (frames (schema_payload begun ∷ earlier))
  pub number_is : spot.number ≡ length (logged before) + spot.index
  pub most : spot.index ≤ length chunk

-- A frame behind the first one begins at the spot's place, of a chunk or of a growth, or the log ends there; the spot's index is 0, and
-- its number is that of the events before. So the place of a growth spells what follows it.
pub record IsBetween (payloads : List (List ℕ)) (spot : Spot) : Type 0 where
  pub begun : Shape
  pub schema : IsSchema begun
  pub earlier : List (List ℕ)
  pub later : List (List ℕ)
  pub before : List Stage
  pub is : payloads ≡ schema_payload begun ∷ (earlier ++ later)
  pub before_are : AreStages begun earlier before
  pub place_is : spot.place ≡ length (frames (schema_payload begun ∷ earlier))
  pub index_is : spot.index ≡ 0
  pub number_is : spot.number ≡ length (logged before)

-- The spot's place and index are a spelling, in a log with this frame list, of the event of its number or of the end. An
-- event behind the end of a chunk has two spellings or more, and so has the end behind a chunk.
abbrev pub SpotAt : List (List ℕ) → Spot → Type 0
SpotAt payloads spot = IsInChunk payloads spot ⊎ IsBetween payloads spot

-- and in the log of a file
abbrev pub SpotIn : List ℕ → Spot → Type 0
SpotIn bytes spot = (payloads : List (List ℕ)) × HasPayloads payloads bytes × SpotAt payloads spot

-- The event that a spot in a chunk names, if it names one there, is that of the chunk at its index, with the values of every growth
-- behind the chunk.
pub record NamesEvent (payloads : List (List ℕ)) (stages : List Stage) (spot : Spot) (at : IsInChunk payloads spot) : Type 0 where
  pub behind : List Stage
  pub behind_are : AreStages (in_force at.begun at.before) at.later behind
  pub event : slice_get (logged stages) spot.number ≡ slice_get (all_extended (values_of behind) at.chunk) spot.index

-- the spot names an event of a frame, or where it begins or what follows its events: the frame stands at that place, behind so many
-- events, and has so many
abbrev pub is_in_chunk : ℕ → ℕ → ℕ → Spot → Bool
is_in_chunk place before count spot = spot.place == place && nat_le spot.index count && spot.number == before + spot.index

-- the spot names the end, which is at that place behind so many events
abbrev pub is_at_end : ℕ → ℕ → Spot → Bool
is_at_end place before spot = spot.place == place && spot.index == 0 && spot.number == before

-- the spot is named by this frame, or is named further on; nothing is named from where no frame of a log stands
abbrev pub named_at : ℕ → ℕ → Spot → Option Entry → (Entry → Bool) → Bool
named_at place before spot None further = false
named_at place before spot (Some entry) further = is_in_chunk place before (count_of entry) spot || further entry

-- the spot names an event of the frames with these payloads, or the end behind them, by heads and growths; where the first of them
-- stands this schema is in force, and it stands at that place, behind so many events
abbrev pub named_from : Shape → ℕ → ℕ → List (List ℕ) → Spot → Bool
named_from shape place before [] spot = is_at_end place before spot
named_from shape place before (payload ∷ payloads) spot =
    named_at place before spot (further_entry shape payload) (λ (entry : Entry). named_from (shape_behind shape entry) (place + 9 + length payload) (before + count_of entry) payloads spot)

-- behind the frame of a schema, if it is one
abbrev pub named_behind : Option Shape → ℕ → List (List ℕ) → Spot → Bool
named_behind None place payloads spot = false
named_behind (Some begun) place payloads spot = named_from begun place 0 payloads spot

-- the spot names an event or the end, by the heads of the chunks and by the growths alone; the first frame says the schema that the log
-- begins with
abbrev pub named_by_heads : List (List ℕ) → Spot → Bool
named_by_heads [] spot = false
named_by_heads (first ∷ payloads) spot = named_behind (schema_of first) (9 + length first) payloads spot

abbrev pub NamedByHeads : List (List ℕ) → Spot → Type 0
NamedByHeads payloads spot = IsTrue (named_by_heads payloads spot)
