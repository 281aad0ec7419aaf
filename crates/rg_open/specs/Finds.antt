-- What is told of a store that was found, and why one wasn't.
use Rattle.std.specs.Prelude.{◌≡◌, ◌≤◌, ℕ, List, [], false, Option, Some}
use Rattle.std.specs.Option.{ForSome}
use Rattle.rg_host.specs.Image.{Image}
use Rattle.rg_host.specs.Moments.{Moment, LeavesAll}
use Rattle.rg_event.specs.declared.event.Event.{Event}
use Rattle.rg_frame.specs.Calls.{Writes}
use Rattle.rg_frame.specs.Frames.{HasPayloads}
use Rattle.rg_frame.specs.LogState.{ReachesEnd}
use Rattle.rg_config.specs.Plans.{planned}
use Rattle.rg_config.specs.declared.plan.Plan.{Plan}
use Rattle.rg_checkpoint.specs.Slots.{Attached, ReachesSlots}
use Rattle.rg_restore.specs.Naming.{IsListed}
use Rattle.rg_restore.specs.declared.choosing.Saved.{Saved}
use Rattle.rg_reservoir.specs.Attached.{IsForeign, IsBadFrame, LogOpens, OpensView}
use Rattle.rg_reservoir.specs.Kept.{base, view_of, opened, room_of, cache_of, log_of, all_events}
use Rattle.rg_reservoir.specs.declared.reservoir.Reservoir.{Reservoir}
use Rattle.rg_open.specs.Blame.{opened_list}
use Rattle.rg_open.specs.Stores.{Has}
use Rattle.rg_open.specs.Opened.{IsOpenedFor, AreSized, AreSizesLeft}
use Rattle.rg_open.specs.Opening.{IsOpenable, AreSlots, IsFound}
use Rattle.rg_open.specs.Settling.{AreSettled}
use Rattle.rg_open.specs.Unfit.{IsUnfit}
use Rattle.rg_open.specs.declared.fault.OpenFault.{OpenFault}
use Rattle.rg_open.specs.declared.fault.OpenFault.TheVariants.{Disk, Damaged, SchemaDiffers, BadState, Table}

-- The slots were read, and handed out their checkpoints: from `now` to `then` reads give the same.
pub record HasRead (now then : Option Image) (slots : Attached) (saved : Saved) : Type 0 where
  pub are : ForSome now (λ v. AreSlots v saved)
  pub sized : ForSome now (AreSized slots)
  pub going : slots.ended ≡ false
  pub reach : ReachesSlots slots then

-- Over a host of which nothing was pending slots and log were read, and the log was given the plan's schema where it had no frame, or a growth
-- where its own grows to the plan's by the plan's defaults.
pub record HasFound (plan : Plan) (now then : Option Image) (may after : Image → Type 0) (r : Reservoir) (slots : Attached) (saved : Saved) : Type 0 where
  -- over a store of the plan, and over a legal log
  pub found : IsOpenable (planned plan) now may → IsFound (planned plan) then after r saved
  pub events : (v : Image) (events : List Event) → now ≡ Some v → Has (planned plan) events v → all_events then (base r) [] ≡ events
  pub log : (v : Image) (events : List Event) → now ≡ Some v → Has (planned plan) events v → IsOpenedFor (planned plan) then after r
  pub settled : (v : Image) → now ≡ Some v → AreSettled then after
  pub sizes : (v : Image) → now ≡ Some v → AreSizesLeft after slots
  pub slots_left : (v : Image) → now ≡ Some v → (u : Image) → after u → AreSlots u saved
  -- over any image
  pub slots_are : ForSome now (λ v. AreSlots v saved)
  pub slots_go : slots.ended ≡ false
  pub list : (v : Image) (payloads : List (List ℕ)) → now ≡ Some v → HasPayloads payloads (v 2) → ForSome then (λ w. HasPayloads (opened_list (planned plan) payloads) (w 2))
  pub listed : (v : Image) → now ≡ Some v → IsListed then
  pub whole : ForSome then (λ w. (p : ℕ) → IsBadFrame p (w 2) → ⊥)
  pub view : ForSome now (λ v. OpensView plan.schema plan.defaults (view_of (base r)) (v 2))
  pub fit : (v : Image) → now ≡ Some v → IsUnfit (planned plan) v → ⊥
  pub going : ((base r).ended ≡ false) × ((base r).file ≡ 2) × ((base r).shape ≡ plan.schema) × ((base r).limit ≡ plan.room.limit)
  pub empty : (opened r ≡ []) × (room_of r ≡ plan.room.chunk) × ((cache_of r).cap ≡ plan.room.cache)
  pub reaches : ReachesEnd (log_of r) then
  pub slots_reach : ReachesSlots slots then

-- Why a store wasn't found. A log of events is never refused as damaged, and an openable one not as another's.
pub record IsNotFound (plan : Plan) (now : Option Image) (may : Image → Type 0) (rose : Type 0) (fault : OpenFault) : Type 0 where
  pub disk : fault ≡ Disk → rose
  pub damaged : (p : ℕ) → fault ≡ Damaged p → ForSome now (λ v. IsBadFrame p (v 2))
  pub undamaged : (v : Image) (events : List Event) (p : ℕ) → now ≡ Some v → Has (planned plan) events v → fault ≡ Damaged p → ⊥
  pub never_damaged : (p : ℕ) → IsOpenable (planned plan) now may → fault ≡ Damaged p → ⊥
  pub differs : fault ≡ SchemaDiffers → ForSome now (λ v. IsForeign plan.schema plan.defaults (v 2))
  pub never_differs : IsOpenable (planned plan) now may → fault ≡ SchemaDiffers → ⊥
  pub no_state : (n : ℕ) → fault ≡ BadState n → ⊥
  pub no_table : fault ≡ Table → ⊥

module _ {H : Type 0} (now : H → Option Image) (may : H → Image → Type 0) (clock : H → ℕ) (since : H → ℕ → Moment → Type 0) (said : H → Option (List ℕ)) (disk out : H → ℕ) where
  -- nothing was written or put
  pub record LeavesStore (old new : H) : Type 0 where
    pub leaves : LeavesAll now may clock since said old new
    pub disk_faults : disk old ≤ disk new
    pub out_faults : out new ≡ out old

  -- nothing was put, and but for the schema's frame of a log without one, or one growth to the schema, nothing was written
  pub record WritesSchema (plan : Plan) (old new : H) : Type 0 where
    pub writes : Writes now may clock since said 2 (LogOpens plan.schema plan.defaults) old new
    pub disk_faults : disk old ≤ disk new
    pub out_faults : out new ≡ out old
