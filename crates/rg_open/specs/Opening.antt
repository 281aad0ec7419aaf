-- Over which stores a plan may be opened, and how it stands then.
use Rattle.std.specs.Prelude.{◌≡◌, ◌+◌, ℕ, List, [], Option, Some}
use Rattle.rg_host.specs.Image.{Image}
use Rattle.rg_config.specs.Plans.{Planned}
use Rattle.rg_plan.specs.Plans.{Tasks, plan_for}
use Rattle.rg_state.specs.Rows.{Cells}
use Rattle.rg_engine.specs.Feeding.{Serves}
use Rattle.rg_engine.specs.Seen.{Seen}
use Rattle.rg_checkpoint.specs.declared.base.Checkpoint.{Checkpoint}
use Rattle.rg_checkpoint.specs.Slots.{IsSlot}
use Rattle.rg_restore.specs.Slots.{slot_in, IsFrom, HaveBegun}
use Rattle.rg_restore.specs.declared.choosing.Saved.{Saved}
use Rattle.rg_restore.specs.Fit.{IsFit}
use Rattle.rg_restore.specs.Naming.{HeadsName}
use Rattle.rg_event.specs.declared.schema.Field.{Field}
use Rattle.rg_engine.specs.Standing.{come}
use Rattle.rg_window.specs.Placed.{numbers_of}
use Rattle.rg_reservoir.specs.Kept.{base, opened}
use Rattle.rg_reservoir.specs.declared.reservoir.Reservoir.{Reservoir}
use Rattle.rg_open.specs.Opened.{IsOpenedFor, IsInStep, IsKeptInSlot}
use Rattle.rg_open.specs.Stores.{IsOfPlan}
use Rattle.rg_open.specs.Truth.{texts_of, IsTruthfulImage}

-- The host tells its image, whose log is of the plan's schema, or of one that grows to it by the plan's defaults, or has no frame; and each
-- image that might be left is truthful.
pub record IsOpenable (plan : Planned) (now : Option Image) (may : Image → Type 0) : Type 0 where
  pub image : Image
  pub told : now ≡ Some image
  pub truthful : (u : Image) → may u → IsTruthfulImage u
  pub schema : IsOfPlan plan image

-- these are the checkpoints of the image's slots
pub record AreSlots (v : Image) (saved : Saved) : Type 0 where
  pub first : IsSlot (v 0) saved.first
  pub second : IsSlot (v 1) saved.second

-- A sound reservoir over the plan's log was attached, and its open chunk is empty; each image that might be left is truthful, and its
-- slots have these checkpoints.
pub record IsFound (plan : Planned) (now : Option Image) (may : Image → Type 0) (r : Reservoir) (saved : Saved) : Type 0 where
  pub reservoir : IsOpenedFor plan now may r
  pub empty : opened r ≡ []
  pub truthful : (u : Image) → may u → IsTruthfulImage u
  pub slots : (u : Image) → may u → AreSlots u saved

-- The engine stands for all events of a sound reservoir over the plan's log, its table tells its rows, and the events are of columns
-- that serve the plan; in each image that might be left the slot it went on from has its checkpoint.
pub record IsStarted {T : Type 0} (plan : Planned) (now : Option Image) (may : Image → Type 0) (is_told : Type 0) (cells : Cells) (r : Reservoir) (engine : Seen T) (texts : List (List ℕ)) (keep : Option ℕ) (saved : ℕ) : Type 0 where
  pub in_step : IsInStep plan now may r cells engine.spots texts
  pub empty : opened r ≡ []
  pub tells : is_told
  pub serves : Serves plan.shape.fields (plan_for plan.queries)
  pub plan_is : engine.plan ≡ plan_for plan.queries
  pub kept : (slot : ℕ) → keep ≡ Some slot → IsKeptInSlot plan may slot saved (base r).committed

-- Of any image: the engine went on from the fit checkpoint of the greatest count in the image's slots, or from the start where none is
-- fit; and just so many steps were counted as there are filters and events that an edge of their windows has come to since.
pub record IsResumed {T : Type 0} (v : Image) (now : Option Image) (texts : List (List ℕ)) (fields : List Field) (tasks : Tasks) (r : Reservoir) (engine : Seen T) (keep : Option ℕ) (from steps then : ℕ) : Type 0 where
  pub saved : Saved
  pub slots : AreSlots v saved
  pub is_from : IsFrom (IsFit (HeadsName now (base r)) texts fields tasks (base r).committed) (slot_in saved) keep from
  pub before : List ℕ
  pub begun : HaveBegun tasks.offsets (slot_in saved) keep before
  pub ticks : then + come tasks before ≡ steps + come tasks (numbers_of engine.spots)

-- Of a truthful image: from the greatest count of a complete slot with the plan's queries, and from 0 where there is none.
pub record IsFromIn (plan : Planned) (v : Image) (from : ℕ) : Type 0 where
  pub saved : Saved
  pub slots : AreSlots v saved
  pub keep : Option ℕ
  pub is : IsFrom (λ (c : Checkpoint). c.queries ≡ texts_of plan.shape plan.queries) (slot_in saved) keep from
