-- A reservoir over the log of a plan, and what can be saved of it.
use Rattle.std.specs.Prelude.{◌≡◌, ◌<◌, ◌≤◌, ℕ, List, [], true, false, Option, Some, is_some, All}
use Rattle.rg_host.specs.Image.{Image, NothingPending}
use Rattle.rg_config.specs.Plans.{Planned}
use Rattle.rg_config.specs.Read.{IsSaid}
use Rattle.rg_past.specs.declared.past.Spot.{Spot}
use Rattle.rg_plan.specs.Plans.{plan_for}
use Rattle.rg_state.specs.Changes.{Marks, IsSince}
use Rattle.rg_state.specs.Rows.{Cells, at_in}
use Rattle.rg_checkpoint.specs.Slots.{Attached, HasSlot, AreSizes}
use Rattle.rg_checkpoint.specs.Updates.{Applies}
use Rattle.rg_checkpoint.specs.declared.base.Checkpoint.{Checkpoint}
use Rattle.rg_checkpoint.specs.declared.sizes.SlotSizes.{SlotSizes}
use Rattle.rg_restore.specs.Truthful.{EngineStands}
use Rattle.rg_reservoir.specs.Kept.{base, opened, all_events, IsSound, Spells}
use Rattle.rg_reservoir.specs.declared.reservoir.Reservoir.{Reservoir}
use Rattle.rg_open.specs.Stores.{HasSaved}
use Rattle.rg_open.specs.Truth.{texts_of, IsTrueOf, IsTruthfulImage}

-- a sound reservoir over the plan's log, which has not ended
pub record IsOpenedFor (plan : Planned) (now : Option Image) (may : Image → Type 0) (r : Reservoir) : Type 0 where
  pub sound : IsSound now may r
  pub going : (base r).ended ≡ false
  pub file : (base r).file ≡ 2
  pub shape : (base r).shape ≡ plan.shape

-- An engine with these rows and spots stands for all events of the reservoir, those of the open chunk included; each image that
-- might be left is truthful, and these are the printed texts of the plan's queries.
pub record IsInStep (plan : Planned) (now : Option Image) (may : Image → Type 0) (r : Reservoir) (cells : Cells) (spots : List Spot) (texts : List (List ℕ)) : Type 0 where
  pub reservoir : IsOpenedFor plan now may r
  pub said : All (IsSaid plan.shape) plan.queries
  pub truthful : (u : Image) → may u → IsTruthfulImage u
  pub stands : EngineStands (Spells now (base r) (opened r)) (plan_for plan.queries) (all_events now (base r) (opened r)) cells spots
  pub texts_are : texts ≡ texts_of plan.shape plan.queries

-- An engine in step with a store whose open chunk is empty: a checkpoint of the stored events can be saved.
pub record IsToSave (plan : Planned) (now : Option Image) (may : Image → Type 0) (r : Reservoir) (cells : Cells) (spots : List Spot) (texts : List (List ℕ)) : Type 0 where
  pub in_step : IsInStep plan now may r cells spots texts
  pub empty : opened r ≡ []

-- in each image that might be left that slot has the plan's checkpoint, of so many of the stored events
pub record IsKeptInSlot (plan : Planned) (may : Image → Type 0) (slot saved committed : ℕ) : Type 0 where
  pub below : slot < 2
  pub stored : saved ≤ committed
  pub has : (u : Image) → may u → HasSaved plan slot saved u

-- the image's slots are of the sizes that are known of them
pub record AreSized (slots : Attached) (v : Image) : Type 0 where
  pub first : AreSizes (v 0) slots.first_sizes
  pub second : AreSizes (v 1) slots.second_sizes

-- and so in each image that might be left
abbrev pub AreSizesLeft : (Image → Type 0) → Attached → Type 0
AreSizesLeft may slots = (u : Image) → may u → AreSized slots u

-- In each image that might be left that slot has one and the same checkpoint, of so many events and with these texts, in a file of
-- these sizes; and what the table tells of changes is told since that checkpoint's rows.
pub record IsKeptSince (may : Image → Type 0) (slot saved : ℕ) (texts : List (List ℕ)) (sizes : Option SlotSizes) (named there : Marks) (cells : Cells) : Type 0 where
  pub checkpoint : Checkpoint
  pub has : (u : Image) → may u → HasSlot (u slot) checkpoint
  pub known : is_some sizes ≡ true
  pub sizes_are : (u : Image) → may u → AreSizes (u slot) sizes
  pub count : checkpoint.count ≡ saved
  pub texts_are : checkpoint.queries ≡ texts
  pub since : IsSince (at_in checkpoint.rows) named there cells

-- The payload is a change payload that makes of the checkpoint that a slot has in each image that might be left one of the plan's queries
-- that is true of the log of each such image; the slot's file is of these sizes, and nothing of it is pending.
pub record IsToExtend (plan : Planned) (now : Option Image) (may : Image → Type 0) (slot : ℕ) (sizes : Option SlotSizes) (payload : List ℕ) (before after : Checkpoint) : Type 0 where
  pub below : slot < 2
  pub image : Image
  pub told : now ≡ Some image
  pub settled : NothingPending slot now may
  pub known : is_some sizes ≡ true
  pub sizes_are : (u : Image) → may u → AreSizes (u slot) sizes
  pub has : (u : Image) → may u → HasSlot (u slot) before
  pub applies : Applies payload before after
  pub true_of : (u : Image) → may u → IsTrueOf (u 2) after
  pub texts : after.queries ≡ texts_of plan.shape plan.queries
