-- The view that the frames of a grown log give, and what a log is that is read through a view.
use Rattle.std.specs.Prelude.{◌≡◌, ◌+◌, ℕ, List, [], ◌∷◌, ◌++◌, length}
use Rattle.std.proofs.Common.{le_trans, le-add_right}
use Rattle.rg_event.specs.Shapes.{Shape, IsSchema}
use Rattle.rg_event.specs.declared.event.Event.{Event}
use Rattle.rg_event.specs.declared.value.Value.{Value}
use Rattle.rg_frame.specs.Frames.{frames, HasPayloads}
use Rattle.rg_log.specs.Log.{schema_payload, joined}
use Rattle.rg_log.specs.Stages.{Stage, chunk, growth, in_force, AreStages}
use Rattle.rg_reservoir.specs.Chain.{Chain}
use Rattle.rg_reservoir.specs.Views.{View, seen_from, shape_at, grown_at, passed}
use Rattle.rg_reservoir.specs.declared.growing.Growing.{Growing}

-- a growth whose frame has that payload and stands at that place, where that schema was in force
abbrev pub growing_at : ℕ → Shape → List ℕ → List Value → Growing
growing_at place from payload values = record { place = place; next = place + 9 + length payload; from = from; values = values; behind = le_trans (le-add_right place 9) (le-add_right (place + 9) (length payload)) }

-- the growths among these stages, by the places of their frames; the frame of the first stage stands at that place, where that schema is in force
abbrev pub growths_from : ℕ → Shape → List (List ℕ) → List Stage → List Growing
growths_from place shape [] stages = []
growths_from place shape (payload ∷ payloads) [] = []
growths_from place shape (payload ∷ payloads) (chunk events ∷ stages) = growths_from (place + 9 + length payload) shape payloads stages
growths_from place shape (payload ∷ payloads) (growth grown ∷ stages) = growing_at place shape payload grown.values ∷ growths_from (place + 9 + length payload) grown.to payloads stages

-- the view of a log that begins with that schema, and whose further payloads say these stages
abbrev pub grown_view : Shape → List (List ℕ) → List Stage → View
grown_view begun payloads stages = seen_from (in_force begun stages) (growths_from (9 + length (schema_payload begun)) begun payloads stages)

-- the file begins with the frame of a schema, its further frames say these stages, and this is the view that they give
pub record IsViewOf (view : View) (stages : List Stage) (bytes : List ℕ) : Type 0 where
  pub begun : Shape
  pub legal : IsSchema begun
  pub payloads : List (List ℕ)
  pub has : HasPayloads (schema_payload begun ∷ payloads) bytes
  pub are : AreStages begun payloads stages
  pub is : view ≡ grown_view begun payloads stages

-- Through the view, chunks stand one after another from behind the first frame, and the growths that stand there, to the end of the frames, and have these events.
pub record IsReadThrough (view : View) (events : List Event) (bytes : List ℕ) : Type 0 where
  pub first : List ℕ
  pub payloads : List (List ℕ)
  pub has : HasPayloads (first ∷ payloads) bytes
  pub chunks : List (List Event)
  pub chain : Chain view bytes (passed view.growths (9 + length first)) chunks (length (frames (first ∷ payloads)))
  pub have : joined chunks ≡ events

-- no growth stands at that place or behind it: the last schema is in force there, nothing comes behind the values of an event, and no growth is passed
pub record IsUngrown (view : View) (place : ℕ) : Type 0 where
  pub schema : shape_at view place ≡ view.shape
  pub events : (events : List Event) → grown_at view.growths place events ≡ events
  pub stays : passed view.growths place ≡ place

-- the view, once a frame more with that payload stands at that place and says that stage
abbrev pub view_after : View → ℕ → List ℕ → Stage → View
view_after view place payload (chunk events) = view
view_after view place payload (growth grown) = seen_from grown.to (view.growths ++ growing_at place view.shape payload grown.values ∷ [])
