-- What is told of a store that was opened once its files were settled, and why one wasn't.
use Rattle.std.specs.Prelude.{◌≡◌, ◌⊎◌, ◌+◌, ◌≤◌, ℕ, List, [], take, false, Option, Some}
use Rattle.std.specs.Option.{ForSome}
use Rattle.rg_bytes.specs.Counts.{Rose}
use Rattle.rg_host.specs.Image.{Image}
use Rattle.rg_event.specs.Rising.{next_offset}
use Rattle.rg_event.specs.Shapes.{Shape}
use Rattle.rg_event.specs.declared.event.Event.{Event}
use Rattle.rg_frame.specs.LogState.{ReachesEnd}
use Rattle.rg_config.specs.Plans.{planned}
use Rattle.rg_config.specs.Read.{IsReadPlan}
use Rattle.rg_config.specs.declared.plan.Plan.{Plan}
use Rattle.rg_plan.specs.Plans.{Tasks}
use Rattle.rg_state.specs.Changes.{Marks}
use Rattle.rg_state.specs.Keeping.{TableKept}
use Rattle.rg_state.specs.Rows.{Cells}
use Rattle.rg_engine.specs.Passed.{passed_count}
use Rattle.rg_engine.specs.Seen.{Seen}
use Rattle.rg_checkpoint.specs.Slots.{Attached, ReachesSlots, sizes_in, IsKeep}
use Rattle.rg_restore.specs.Opening.{IsEmpty, IsGoing}
use Rattle.rg_reservoir.specs.Attached.{IsForeign, IsBadFrame, OpensView, IsIllegalOpened}
use Rattle.rg_reservoir.specs.Kept.{base, view_of, opened, room_of, cache_of, log_of, next_of, all_events}
use Rattle.rg_reservoir.specs.declared.reservoir.Reservoir.{Reservoir}
use Rattle.rg_open.specs.Blame.{IsBlamed, NodeRuns, IsPlaced}
use Rattle.rg_open.specs.Opened.{IsKeptSince}
use Rattle.rg_open.specs.Opening.{IsOpenable, IsStarted, IsResumed, IsFromIn}
use Rattle.rg_open.specs.Settling.{AreSettled}
use Rattle.rg_open.specs.Stores.{Has}
use Rattle.rg_open.specs.Unfit.{IsUnfit, SaysWhy}
use Rattle.rg_open.specs.declared.fault.OpenFault.{OpenFault}
use Rattle.rg_open.specs.declared.fault.OpenFault.TheVariants.{Disk, Damaged, SchemaDiffers, BadState, Table}

-- A plan as it was read, copies of what is kept of it, and a table without a row.
pub record IsToOpen (plan : Plan) (shape : Shape) (texts : List (List ℕ)) (tasks : Tasks) (is_told : Type 0) (cells : Cells) : Type 0 where
  pub read : IsReadPlan plan
  pub schema : shape ≡ plan.schema
  pub texts_are : texts ≡ plan.queries
  pub task : tasks ≡ plan.task
  pub empty : is_told → IsEmpty cells

-- What stands beside the reservoir of a store that was opened, and how far the store had come.
pub record HasCome (plan : Plan) (r : Reservoir) (saved : ℕ) (shape : Shape) (texts : List (List ℕ)) (next count from : ℕ) : Type 0 where
  pub schema : shape ≡ plan.schema
  pub texts_are : texts ≡ plan.queries
  pub next_is : next ≡ next_of r
  pub count_is : count ≡ (base r).committed
  pub from_is : from ≡ saved

module _ {H T : Type 0} (now : H → Option Image) (may : H → Image → Type 0) (Tells : T → Type 0) (faults : T → ℕ) (named there : T → Marks) (cells : T → Cells) (plan : Plan) (table : T) (old new : H) where
  -- Over a host whose files were settled a store was opened, and its engine went on from so many events, those of that slot.
  pub record HasOpened (before after : ℕ) (r : Reservoir) (engine : Seen T) (slots : Attached) (keep : Option ℕ) (from : ℕ) : Type 0 where
    -- over a truthful store of the plan
    pub started : IsOpenable (planned plan) (now old) (may old) → Tells table → IsStarted (planned plan) (now new) (may new) (Tells engine.table) (cells engine.table) r engine plan.queries keep from
    pub passed : IsOpenable (planned plan) (now old) (may old) → after ≡ before + passed_count plan.task (take from (all_events (now new) (base r) [])) (all_events (now new) (base r) [])
    pub is_from : (v : Image) → now old ≡ Some v → IsOpenable (planned plan) (now old) (may old) → IsFromIn (planned plan) v from
    -- over a legal log
    pub events : (v : Image) (events : List Event) → now old ≡ Some v → Has (planned plan) events v → all_events (now new) (base r) [] ≡ events
    pub next : (v : Image) (events : List Event) → now old ≡ Some v → Has (planned plan) events v → next_of r ≡ next_offset events
    pub node : (v : Image) (events : List Event) (n : ℕ) → now old ≡ Some v → Has (planned plan) events v → Tells table
        → (NodeRuns (planned plan) n (now new) (may new) (Tells engine.table) (cells engine.table) r engine → ⊥) → IsBlamed (planned plan) v events n
    pub placed : (v : Image) (events : List Event) → now old ≡ Some v → Has (planned plan) events v → IsPlaced (planned plan) (now new) (may new) r engine
    -- over any image
    pub told : (v : Image) → now old ≡ Some v → (w : Image) × (now new ≡ Some w)
    pub since : (v : Image) → now old ≡ Some v → Tells table → (slot : ℕ) → keep ≡ Some slot → IsKeptSince (may new) slot from plan.queries (sizes_in slots slot) (named engine.table) (there engine.table) (cells engine.table)
    pub stored : (v : Image) → now old ≡ Some v → from ≤ (base r).committed
    pub settled : (v : Image) → now old ≡ Some v → AreSettled (now new) (may new)
    pub resumed : (v : Image) → now old ≡ Some v → IsResumed v (now new) plan.queries plan.schema.fields plan.task r engine keep from before after
    pub fit : (v : Image) → now old ≡ Some v → IsUnfit (planned plan) v → ⊥
    pub view : ForSome (now old) (λ v. OpensView plan.schema plan.defaults (view_of (base r)) (v 2))
    pub going : ((base r).ended ≡ false) × ((base r).file ≡ 2) × ((base r).shape ≡ plan.schema) × ((base r).limit ≡ plan.room.limit)
    pub empty : (opened r ≡ []) × (room_of r ≡ plan.room.chunk) × ((cache_of r).cap ≡ plan.room.cache)
    pub reaches : ReachesEnd (log_of r) (now new)
    pub slots_go : slots.ended ≡ false
    pub slots_reach : ReachesSlots slots (now new)
    pub keep_is : IsKeep keep
    pub engine_goes : IsGoing plan.task (base r).committed engine
    pub table_kept : TableKept Tells faults table engine.table

  -- Why none was opened, and the table as it then is.
  pub record HasNotOpened (rose : Type 0) (fault : OpenFault) (back : T) : Type 0 where
    pub disk : fault ≡ Disk → rose
    pub differs : fault ≡ SchemaDiffers → ForSome (now old) (λ v. IsForeign plan.schema plan.defaults (v 2))
    pub never_differs : IsOpenable (planned plan) (now old) (may old) → fault ≡ SchemaDiffers → ⊥
    pub damaged : (p : ℕ) → fault ≡ Damaged p → ForSome (now old) (λ v. IsBadFrame p (v 2)) ⊎ ForSome (now old) (λ u. ForSome (now new) (λ v. IsIllegalOpened plan.schema plan.defaults (u 2) p (v 2)))
    pub never_damaged : (p : ℕ) → IsOpenable (planned plan) (now old) (may old) → fault ≡ Damaged p → ⊥
    pub undamaged : (v : Image) (events : List Event) (p : ℕ) → now old ≡ Some v → Has (planned plan) events v → fault ≡ Damaged p → ⊥
    pub bad : (v : Image) (events : List Event) (n : ℕ) → now old ≡ Some v → Has (planned plan) events v → Tells table → fault ≡ BadState n → IsBlamed (planned plan) v events n
    pub never_bad : (n : ℕ) → IsOpenable (planned plan) (now old) (may old) → Tells table → fault ≡ BadState n → ⊥
    pub why : (v : Image) → now old ≡ Some v → IsUnfit (planned plan) v → SaysWhy (planned plan) v fault
    pub table_disk : fault ≡ Table → Rose (faults table) (faults back)
    pub table_kept : TableKept Tells faults table back
