-- The stages of a log: behind the frame of the schema that it begins with, chunks and growths. A chunk is read by the schema that is in
-- force where it stands, and the values of each later growth stand behind those of its events.
use Rattle.std.specs.Prelude.{◌≡◌, ℕ, List, [], ◌∷◌, ◌++◌, map}
use Rattle.rg_event.specs.Shapes.{Shape, IsSchema}
use Rattle.rg_event.specs.declared.event.Event.{Event}
use Rattle.rg_event.specs.declared.value.Value.{Value}
use Rattle.rg_growth.specs.Payloads.{IsGrowth}
use Rattle.rg_growth.specs.declared.growth.Growth.{Growth}
use Rattle.rg_chunk.specs.Extended.{all_extended}
use Rattle.rg_log.specs.Payloads.{schema_payload, IsChunkOf}

-- what a frame behind the first one says: events, or how the schema grows
pub data Stage : Type 0 where
  chunk : List Event → Stage
  growth : Growth → Stage

-- the schema in force behind a stage
abbrev pub shape_after : Shape → Stage → Shape
shape_after shape (chunk events) = shape
shape_after shape (growth grown) = grown.to

-- the schema in force behind these stages
abbrev pub in_force : Shape → List Stage → Shape
in_force shape [] = shape
in_force shape (stage ∷ stages) = in_force (shape_after shape stage) stages

-- the payload says this stage, where that schema is in force
abbrev pub IsStage : Shape → List ℕ → Stage → Type 0
IsStage shape payload (chunk events) = IsChunkOf shape payload events
IsStage shape payload (growth grown) = IsGrowth shape payload grown

-- these payloads say these stages, the first of them where that schema is in force
abbrev pub AreStages : Shape → List (List ℕ) → List Stage → Type 0
AreStages shape [] [] = Unit {0}
AreStages shape [] (stage ∷ stages) = ⊥
AreStages shape (payload ∷ payloads) [] = ⊥
AreStages shape (payload ∷ payloads) (stage ∷ stages) = IsStage shape payload stage × AreStages (shape_after shape stage) payloads stages

-- the values that these stages put behind those of an event before them
abbrev pub values_of : List Stage → List Value
values_of [] = []
values_of (chunk events ∷ stages) = values_of stages
values_of (growth grown ∷ stages) = grown.values ++ values_of stages

-- the events of these stages, each with the values of every later growth behind its own
abbrev pub logged : List Stage → List Event
logged [] = []
logged (chunk events ∷ stages) = all_extended (values_of stages) events ++ logged stages
logged (growth grown ∷ stages) = logged stages

-- chunks alone
abbrev pub plain : List (List Event) → List Stage
plain chunks = map (λ (events : List Event). chunk events) chunks

-- The frame list is that of a log with these stages, at whose end this schema is in force. The first frame says the schema that
-- it begins with; a log without a frame has no stage.
abbrev pub HasStages : Shape → List (List ℕ) → List Stage → Type 0
HasStages shape [] stages = stages ≡ []
HasStages shape (first ∷ payloads) stages = (begun : Shape) × IsSchema begun × (first ≡ schema_payload begun) × AreStages begun payloads stages × (in_force begun stages ≡ shape)
