-- From what an engine is made, and what one that was made is.
use Rattle.std.specs.Prelude.{◌≡◌, ℕ, Bool, false, List, length, None}
use Rattle.rg_event.specs.declared.event.Event.{Event}
use Rattle.rg_plan.specs.Plans.{Tasks}
use Rattle.rg_state.specs.Rows.{AreRising, Cells, Entry}
use Rattle.rg_window.specs.Placed.{AreWithin}
use Rattle.rg_engine.specs.Feeding.{IsFed}
use Rattle.rg_engine.specs.Seen.{Seen}
use Rattle.rg_checkpoint.specs.Entries.{AreFilled}
use Rattle.rg_checkpoint.specs.declared.base.Checkpoint.{Checkpoint}

-- a table without a row
abbrev pub IsEmpty : Cells → Type 0
IsEmpty cells = (node : ℕ) (key : List ℕ) → cells node key ≡ None

-- an engine can stand for these events: the past is sound, the table tells its rows, and the events are of columns that serve the plan
pub record CanStand (is_sound is_told : Type 0) (plan : Tasks) (events : List Event) : Type 0 where
  pub sound : is_sound
  pub tells : is_told
  pub fed : IsFed plan events

-- an engine can be made from the checkpoint over so many events: there is a spot for each offset, and none is behind the end
pub record IsUsable (plan : Tasks) (count : ℕ) (checkpoint : Checkpoint) : Type 0 where
  pub same : length checkpoint.spots ≡ length plan.offsets
  pub within : AreWithin checkpoint.spots count

-- an engine of this plan that hasn't ended, none of whose edges is behind the end of so many events
pub record IsGoing {T : Type 0} (plan : Tasks) (count : ℕ) (engine : Seen T) : Type 0 where
  pub plan_is : engine.plan ≡ plan
  pub going : engine.ended ≡ false
  pub within : AreWithin engine.spots count

-- rows that a table can be given: they rise by node and key, and none is empty
pub record AreMovable (rows : List Entry) : Type 0 where
  pub rising : AreRising rows
  pub filled : AreFilled rows
