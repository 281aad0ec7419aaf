-- The log of a file: which stages and events it has, and which schema is in force at its end.
use Rattle.std.specs.Prelude.{◌≡◌, ◌⊎◌, ◌≤◌, ◌^◌, ℕ, List, [], ◌∷◌, length}
use Rattle.rg_event.specs.Rising.{IsRising}
use Rattle.rg_event.specs.Shapes.{Shape, IsSchema}
use Rattle.rg_event.specs.declared.event.Event.{Event}
use Rattle.rg_frame.specs.Frames.{HasPayloads}
pub use Rattle.rg_log.specs.Payloads.{schema_payload, IsChunkOf, joined}
use Rattle.rg_log.specs.Stages.{Stage, logged, HasStages}

-- The file is a legal log with these stages, and this schema is in force at its end: its offsets rise and its times never fall, and
-- there are at most 2^40 events. A log without a frame is of any schema.
pub record IsLegalLog (shape : Shape) (stages : List Stage) (bytes : List ℕ) : Type 0 where
  pub schema : IsSchema shape
  pub payloads : List (List ℕ)
  pub has : HasPayloads payloads bytes
  pub log : HasStages shape payloads stages
  pub rising : IsRising (logged stages)
  pub few : length (logged stages) ≤ 2 ^ 40

-- the file is a legal log, at whose end this schema is in force, with these events, each of which has a value for each of its columns
abbrev pub HasEvents : Shape → List Event → List ℕ → Type 0
HasEvents shape events bytes = (stages : List Stage) × IsLegalLog shape stages bytes × (logged stages ≡ events)

-- the log of the file is legal, of whatever schema; one without a frame is of none
abbrev pub HasLegalLog : List ℕ → Type 0
HasLegalLog bytes = HasPayloads [] bytes ⊎ ((shape : Shape) × (stages : List Stage) × IsLegalLog shape stages bytes)

-- the file has a frame
abbrev pub HasFrame : List ℕ → Type 0
HasFrame bytes = (first : List ℕ) × (payloads : List (List ℕ)) × HasPayloads (first ∷ payloads) bytes

-- the file has a frame, and at its end this schema is in force
abbrev pub IsInForce : Shape → List ℕ → Type 0
IsInForce shape bytes = (first : List ℕ) × (payloads : List (List ℕ)) × (stages : List Stage) × HasPayloads (first ∷ payloads) bytes × HasStages shape (first ∷ payloads) stages

-- the file has no frame, or at its end this schema is in force
abbrev pub IsOfSchema : Shape → List ℕ → Type 0
IsOfSchema shape bytes = HasPayloads [] bytes ⊎ IsInForce shape bytes
