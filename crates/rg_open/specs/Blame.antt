-- Which node of the checkpoint that an opening goes on from isn't true of the events.
use Rattle.std.specs.Prelude.{◌≡◌, ℕ, List, [], ◌∷◌, ◌++◌, length, Option, Some, None, All, option_and_then}
use Rattle.rg_host.specs.Image.{Image}
use Rattle.rg_event.specs.Shapes.{Shape}
use Rattle.rg_event.specs.declared.event.Event.{Event}
use Rattle.rg_event.specs.declared.value.Value.{Value}
use Rattle.rg_growth.specs.Filling.{filled}
use Rattle.rg_past.specs.declared.past.Spot.{Spot}
use Rattle.rg_frame.specs.Frames.{HasPayloads}
use Rattle.rg_log.specs.Entries.{unread, entries_after}
use Rattle.rg_log.specs.Log.{schema_payload}
use Rattle.rg_log.specs.Spots.{SpotAt}
use Rattle.rg_log.specs.declared.entry.LogSoFar.{LogSoFar}
use Rattle.rg_config.specs.Plans.{Planned}
use Rattle.rg_plan.specs.Plans.{plan_for}
use Rattle.rg_state.specs.Rows.{Cells}
use Rattle.rg_engine.specs.Feeding.{Serves}
use Rattle.rg_engine.specs.Seen.{Seen}
use Rattle.rg_checkpoint.specs.declared.base.Checkpoint.{Checkpoint}
use Rattle.rg_restore.specs.declared.choosing.Saved.{Saved}
use Rattle.rg_restore.specs.Fit.{IsFit}
use Rattle.rg_restore.specs.Slots.{slot_in, IsBest}
use Rattle.rg_restore.specs.Truthful.{NodeGoes, NodeIsTrue}
use Rattle.rg_reservoir.specs.Attached.{growth_payload}
use Rattle.rg_reservoir.specs.Kept.{base, opened, all_events, Spells}
use Rattle.rg_reservoir.specs.declared.reservoir.Reservoir.{Reservoir}
use Rattle.rg_open.specs.Opened.{IsOpenedFor}
use Rattle.rg_open.specs.Truth.{texts_of}
use Rattle.rg_open.specs.Opening.{AreSlots}

-- the payload of the growth to that schema by these values, if there are some
abbrev pub payload_of : Shape → Option (List Value) → List (List ℕ)
payload_of shape None = []
payload_of shape (Some values) = growth_payload shape values ∷ []

-- that of the growth which an opening writes where that schema is in force at the log's end, if it writes one
abbrev pub growth_behind : Planned → Option Shape → List (List ℕ)
growth_behind plan None = []
growth_behind plan (Some from) = payload_of plan.shape (filled from plan.shape plan.defaults)

-- the frame list of a log once it was opened: one without a frame was given the schema's, and one whose schema grows to the plan's by its defaults that growth
abbrev pub opened_list : Planned → List (List ℕ) → List (List ℕ)
opened_list plan [] = schema_payload plan.shape ∷ []
opened_list plan (first ∷ payloads) = (first ∷ payloads) ++ growth_behind plan (option_and_then (λ (so_far : LogSoFar). so_far.schema) (entries_after unread (first ∷ payloads)))

-- Of the checkpoints of two slots one is used, the fit one of the greatest count, and the node isn't true in it: its rows, with the
-- spots of its window's edges, stand for no first ones of these events.
pub record IsAmiss (Spells : Spot → Type 0) (plan : Planned) (events : List Event) (saved : Saved) (n : ℕ) : Type 0 where
  pub slot : ℕ
  pub used : Checkpoint
  pub best : IsBest (IsFit Spells (texts_of plan.shape plan.queries) plan.shape.fields (plan_for plan.queries) (length events)) (slot_in saved) slot used
  pub untrue : NodeIsTrue Spells (plan_for plan.queries) n events used → ⊥

-- One node of an engine stands for all events of a sound reservoir over the plan's log, those of the open chunk included; the table tells
-- its rows, and the events are of columns that serve the plan: the node can be carried on, whatever the rows and spots of the others are.
pub record NodeRuns {T : Type 0} (plan : Planned) (n : ℕ) (now : Option Image) (may : Image → Type 0) (is_told : Type 0) (cells : Cells) (r : Reservoir) (engine : Seen T) : Type 0 where
  pub reservoir : IsOpenedFor plan now may r
  pub goes : NodeGoes (Spells now (base r) (opened r)) (plan_for plan.queries) n (all_events now (base r) (opened r)) cells engine.spots
  pub tells : is_told
  pub serves : Serves plan.shape.fields (plan_for plan.queries)
  pub plan_is : engine.plan ≡ plan_for plan.queries

-- The reservoir is sound over the plan's log, and each edge of the engine stands at a spelled spot: no look of a move is refused as damaged,
-- whatever the rows are.
pub record IsPlaced {T : Type 0} (plan : Planned) (now : Option Image) (may : Image → Type 0) (r : Reservoir) (engine : Seen T) : Type 0 where
  pub reservoir : IsOpenedFor plan now may r
  pub spots : All (Spells now (base r) (opened r)) engine.spots

-- Of an image whose log has these events: the node isn't true in the checkpoint of its slots that is used.
pub record IsBlamed (plan : Planned) (v : Image) (events : List Event) (n : ℕ) : Type 0 where
  pub saved : Saved
  pub slots : AreSlots v saved
  pub payloads : List (List ℕ)
  pub has : HasPayloads payloads (v 2)
  pub amiss : IsAmiss (SpotAt (opened_list plan payloads)) plan events saved n
