-- What the images of a store say to the runs of a plan.
use Rattle.std.specs.Prelude.{◌≡◌, ◌<◌, ◌≤◌, ℕ, List}
use Rattle.std.proofs.Common.{arith}
use Rattle.rg_host.specs.Image.{Image}
use Rattle.rg_event.specs.declared.event.Event.{Event}
use Rattle.rg_config.specs.Plans.{Planned}
use Rattle.rg_checkpoint.specs.declared.base.Checkpoint.{Checkpoint}
use Rattle.rg_checkpoint.specs.Slots.{HasSlot}
use Rattle.rg_run_spec.specs.Stores.{Store}
use Rattle.rg_log.specs.Filled.{HasEventsFor, IsOfSchemaFor}
use Rattle.rg_log.specs.Log.{IsInForce}
use Rattle.rg_open.specs.Truth.{texts_of, IsTruthfulImage}

-- the slot is complete, has the plan's queries, and counts at least so many events
pub record HasSaved (plan : Planned) (slot count : ℕ) (v : Image) : Type 0 where
  pub below : slot < 2
  pub checkpoint : Checkpoint
  pub complete : HasSlot (v slot) checkpoint
  pub texts : checkpoint.queries ≡ texts_of plan.shape plan.queries
  pub most : count ≤ checkpoint.count

-- the log has no frame, or at its end the plan's schema is in force, or one that grows to it by the plan's defaults
abbrev pub IsOfPlan : Planned → Image → Type 0
IsOfPlan plan v = IsOfSchemaFor plan.shape plan.defaults (v 2)

-- the plan's schema is in force at the log's end
abbrev pub IsGrownTo : Planned → Image → Type 0
IsGrownTo plan v = IsInForce plan.shape (v 2)

-- the log's events are these, each with the plan's defaults of the columns that it lacks
abbrev pub Has : Planned → List Event → Image → Type 0
Has plan events v = HasEventsFor plan.shape plan.defaults events (v 2)

pub has_fewer : (plan : Planned) (slot n count : ℕ) (v : Image) → n ≤ count → HasSaved plan slot count v → HasSaved plan slot n v
has_fewer plan slot n count v le has = record { below = has.below; checkpoint = has.checkpoint; complete = has.complete; texts = has.texts; most = omega (arith, le, has.most) }

-- the store of a plan: the images of a host's files
abbrev pub store_of : Planned → Store Image
store_of plan = record {
  IsTruthful = IsTruthfulImage;
  IsOfSchema = IsOfPlan plan;
  IsGrown = IsGrownTo plan;
  HasEvents = Has plan;
  HasSaved = HasSaved plan;
  has_fewer = has_fewer plan;
}
