-- The stages and the events of a legal log are what the functions read in its bytes.
use Rattle.std.proofs.Common.{◌≡◌, ◌∙◌, ℕ, ◌≤◌, true, List, [], ◌∷◌, length, Option, Some, None, option_map, option_and_then, Result, Err, refl, sym, ap}
use Rattle.std.proofs.lemmas.Bool.{le-leb, lt-ltb}
use Rattle.rg_event.specs.Rising.{IsRising, next_offset}
use Rattle.rg_event.specs.Shapes.{Shape, IsSchema, schema_text}
use Rattle.rg_event.specs.declared.event.Event.{Event}
use Rattle.rg_event.specs.declared.schema.Field.{Field}
use Rattle.rg_event.proofs.Laws.{read_back}
use Rattle.rg_growth.specs.Payloads.{growth_of}
use Rattle.rg_growth.specs.declared.growth.Growth.{Growth}
use Rattle.rg_frame.specs.FrameList.{frame_list, payloads_in, defined}
use Rattle.rg_frame.specs.Frames.{HasPayloads, IsDamaged}
use Rattle.rg_chunk.specs.Chunks.{chunk_of}
use Rattle.rg_chunk.specs.Heads.{head_of, head_for}
use Rattle.rg_chunk.proofs.Laws.{chunk_head}
use Rattle.rg_log.specs.Log.{schema_payload, IsLegalLog, HasEvents}
use Rattle.rg_log.specs.Reading.{schema_of, is_rising, legal_events, chunk_or, stage_of, stages_from, listed_stages, stages_in, events_of, next_of}
use Rattle.rg_log.specs.Stages.{Stage, chunk, growth, shape_after, IsStage, AreStages, logged, HasStages}
use Rattle.rg_log.proofs.StageReading.{growth_headless, growth_read}

rising_said : (events : List Event) → IsRising events → is_rising events ≡ true
rising_said [] rising = refl
rising_said (x ∷ []) rising = refl
rising_said (x ∷ (y ∷ events)) rising = rw (lt-ltb x.offset y.offset rising.0, le-leb x.time y.time rising.1) (rising_said (y ∷ events) rising.2)

pub legal_said : (events : List Event) → IsRising events → length events ≤ 1099511627776 → legal_events events ≡ Some events
legal_said events rising few = rw (rising_said events rising, le-leb (length events) 1099511627776 few) refl

-- the schema that the payload of a schema says
pub schema_said : (shape : Shape) → IsSchema shape → schema_of (schema_payload shape) ≡ Some shape
schema_said shape legal = read_back (schema_text shape) shape legal refl

-- a payload that has no head of a chunk is no chunk
no_chunk : (columns : List Field) (payload : List ℕ) → head_of payload ≡ None → chunk_of columns payload ≡ None
no_chunk columns payload none = by (chunk_of columns payload) refl
  where
    by : (o : Option (List Event)) → chunk_of columns payload ≡ o → o ≡ None
    by None is = refl
    by (Some events) is = absurd (let e : None ≡ Some (head_for events) = sym none ∙ chunk_head columns payload events is in cc)

-- what is said is read
stage_said : (shape : Shape) (payload : List ℕ) (stage : Stage) → IsStage shape payload stage → stage_of shape payload ≡ Some stage
stage_said shape payload (chunk events) is = ap (λ (o : Option (List Event)). chunk_or o (growth_of shape payload)) is.said
stage_said shape payload (growth grown) is =
    ap (λ (o : Option (List Event)). chunk_or o (growth_of shape payload)) (no_chunk shape.fields payload (growth_headless shape payload grown is))
    ∙ ap (option_map (λ (g : Growth). growth g)) (growth_read shape payload grown is)

abbrev on_from : Shape → List (List ℕ) → Option Stage → Option (List Stage)
on_from shape payloads said = option_and_then (λ (stage : Stage). option_map (λ (stages : List Stage). stage ∷ stages) (stages_from (shape_after shape stage) payloads)) said

stages_said : (shape : Shape) (payloads : List (List ℕ)) (stages : List Stage) → AreStages shape payloads stages → stages_from shape payloads ≡ Some stages
stages_said shape [] [] are = refl
stages_said shape [] (s ∷ stages) are = absurd are
stages_said shape (p ∷ payloads) [] are = absurd are
stages_said shape (p ∷ payloads) (s ∷ stages) are =
    ap (on_from shape payloads) (stage_said shape p s are.0) ∙ ap (option_map (λ (l : List Stage). s ∷ l)) (stages_said (shape_after shape s) payloads stages are.1)

pub listed_said : (shape : Shape) (payloads : List (List ℕ)) (stages : List Stage) → HasStages shape payloads stages → listed_stages payloads ≡ Some stages
listed_said shape [] stages none = ap (λ (l : List Stage). Some l) (sym none)
listed_said shape (first ∷ payloads) stages has =
    ap (λ (p : List ℕ). option_and_then (λ (begun : Shape). stages_from begun payloads) (schema_of p)) has.2
    ∙ ap (option_and_then (λ (begun : Shape). stages_from begun payloads)) (schema_said has.0 has.1)
    ∙ stages_said has.0 payloads stages has.3

abbrev events_by : Option (List Stage) → Option (List Event)
events_by said = option_and_then (λ (stages : List Stage). legal_events (logged stages)) said

-- what `law_frames` promises
module _ (frames_defined : (payloads : List (List ℕ)) (bytes : List ℕ) → HasPayloads payloads bytes → payloads_in bytes ≡ Some payloads) where
  pub stages_read : (shape : Shape) (stages : List Stage) (bytes : List ℕ) → IsLegalLog shape stages bytes → stages_in bytes ≡ Some stages
  stages_read shape stages bytes log = ap (option_and_then listed_stages) (frames_defined log.payloads bytes log.has) ∙ listed_said shape log.payloads stages log.log

  pub events_read : (shape : Shape) (events : List Event) (bytes : List ℕ) → HasEvents shape events bytes → events_of bytes ≡ Some events
  events_read shape events bytes x = ap events_by (stages_read shape x.0 bytes x.1) ∙ legal_said (logged x.0) x.1.rising x.1.few ∙ ap (λ (l : List Event). Some l) x.2

  pub next_read : (shape : Shape) (events : List Event) (bytes : List ℕ) → HasEvents shape events bytes → next_of bytes ≡ Some (next_offset events)
  next_read shape events bytes x = ap (option_map next_offset) (events_read shape events bytes x)

  pub no_events : (bytes : List ℕ) → HasPayloads [] bytes → events_of bytes ≡ Some []
  no_events bytes has = ap (λ (o : Option (List (List ℕ))). events_by (option_and_then listed_stages o)) (frames_defined [] bytes has)

module _ (undefined : (place : ℕ) (bytes : List ℕ) → IsDamaged place bytes → frame_list bytes ≡ Err place) where
  pub damaged_events : (place : ℕ) (bytes : List ℕ) → IsDamaged place bytes → events_of bytes ≡ None
  damaged_events place bytes torn = ap (λ (r : Result (List (List ℕ)) ℕ). events_by (option_and_then listed_stages (defined r))) (undefined place bytes torn)
