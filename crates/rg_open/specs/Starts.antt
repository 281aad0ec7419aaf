-- What is told of an engine that was started over a store that was found, and why one wasn't.
use Rattle.std.specs.Prelude.{◌≡◌, ◌+◌, ◌≤◌, ℕ, List, [], take, false, Option}
use Rattle.rg_bytes.specs.Counts.{Rose}
use Rattle.rg_host.specs.Image.{Image}
use Rattle.rg_host.specs.Moments.{Moment, LeavesAll}
use Rattle.rg_config.specs.Plans.{planned}
use Rattle.rg_config.specs.Read.{IsReadPlan}
use Rattle.rg_config.specs.declared.plan.Plan.{Plan}
use Rattle.rg_plan.specs.Plans.{Tasks}
use Rattle.rg_state.specs.Changes.{Marks}
use Rattle.rg_state.specs.Keeping.{TableKept}
use Rattle.rg_state.specs.Rows.{Cells}
use Rattle.rg_window.specs.Placed.{numbers_of}
use Rattle.rg_engine.specs.Passed.{passed_count}
use Rattle.rg_engine.specs.Seen.{Seen}
use Rattle.rg_engine.specs.Standing.{come}
use Rattle.rg_restore.specs.Fit.{IsFit}
use Rattle.rg_restore.specs.Naming.{IsListed, IsDamagedIn, HeadsName}
use Rattle.rg_restore.specs.Opening.{IsEmpty, IsGoing}
use Rattle.rg_restore.specs.Since.{IsSinceSlot}
use Rattle.rg_restore.specs.Slots.{slot_in, HaveBegun, IsFrom}
use Rattle.rg_restore.specs.declared.choosing.Saved.{Saved}
use Rattle.rg_reservoir.specs.Kept.{base, opened, room_of, cache_of, all_events, IsSound, Spells}
use Rattle.rg_reservoir.specs.declared.reservoir.Reservoir.{Reservoir}
use Rattle.rg_open.specs.Blame.{IsAmiss, NodeRuns, IsPlaced}
use Rattle.rg_open.specs.Opened.{IsOpenedFor}
use Rattle.rg_open.specs.Opening.{IsFound, IsStarted}
use Rattle.rg_open.specs.declared.fault.OpenFault.{OpenFault}
use Rattle.rg_open.specs.declared.fault.OpenFault.TheVariants.{Disk, Damaged, SchemaDiffers, BadState, Table}

-- A plan as it was read and its own task, a reservoir that hasn't ended and whose open chunk is empty, and a table without a row.
pub record IsToStart (plan : Plan) (tasks : Tasks) (is_told : Type 0) (cells : Cells) (r : Reservoir) : Type 0 where
  pub read : IsReadPlan plan
  pub task : tasks ≡ plan.task
  pub going : (base r).ended ≡ false
  pub none : opened r ≡ []
  pub empty : is_told → IsEmpty cells

module _ {H T : Type 0} (now : H → Option Image) (may : H → Image → Type 0) (Tells : T → Type 0) (faults : T → ℕ) (named there : T → Marks) (cells : T → Cells) (plan : Plan) (saved : Saved) (table : T) (old new : H) (r s : Reservoir) where
  -- An engine was started, from the checkpoint of that slot, which is of so many events, or from the start.
  pub record HasStarted (tasks : Tasks) (before after : ℕ) (engine : Seen T) (keep : Option ℕ) (from : ℕ) : Type 0 where
    -- over a store that was found
    pub started : IsFound (planned plan) (now old) (may old) r saved → Tells table → IsStarted (planned plan) (now new) (may new) (Tells engine.table) (cells engine.table) s engine plan.queries keep from
    pub passed : IsFound (planned plan) (now old) (may old) r saved → after ≡ before + passed_count tasks (take from (all_events (now old) (base r) [])) (all_events (now old) (base r) [])
    -- over any slots it is known which is used, what is passed, and whose rows and spots are to blame
    pub is_from : IsListed (now old) → IsFrom (IsFit (HeadsName (now old) (base r)) plan.queries plan.schema.fields tasks (base r).committed) (slot_in saved) keep from
    pub ticks : (numbers : List ℕ) × HaveBegun tasks.offsets (slot_in saved) keep numbers × (after + come tasks numbers ≡ before + come tasks (numbers_of engine.spots))
    pub node : (n : ℕ) → IsOpenedFor (planned plan) (now old) (may old) r → Tells table → (NodeRuns (planned plan) n (now new) (may new) (Tells engine.table) (cells engine.table) s engine → ⊥)
        → IsAmiss (Spells (now old) (base r) (opened r)) (planned plan) (all_events (now old) (base r) (opened r)) saved n
    pub placed : IsOpenedFor (planned plan) (now old) (may old) r → IsPlaced (planned plan) (now new) (may new) s engine
    pub engine_goes : IsGoing tasks (base s).committed engine
    pub since : Tells table → IsSinceSlot (slot_in saved) keep (named engine.table) (there engine.table) (cells engine.table)
    pub table_kept : TableKept Tells faults table engine.table

  -- Why none was started. Over a sound log it is never for damage, and over a store that was found never for a bad state; the table is as it then is.
  pub record HasNotStarted (rose : Type 0) (fault : OpenFault) (back : T) : Type 0 where
    pub disk : fault ≡ Disk → rose
    pub damaged : (p : ℕ) → fault ≡ Damaged p → IsDamagedIn (now new) (base s) p
    pub undamaged : (p : ℕ) → IsSound (now old) (may old) r → fault ≡ Damaged p → ⊥
    pub same_schema : fault ≡ SchemaDiffers → ⊥
    pub bad : (n : ℕ) → IsOpenedFor (planned plan) (now old) (may old) r → Tells table → fault ≡ BadState n
        → IsAmiss (Spells (now old) (base r) (opened r)) (planned plan) (all_events (now old) (base r) (opened r)) saved n
    pub never_bad : (n : ℕ) → IsFound (planned plan) (now old) (may old) r saved → Tells table → fault ≡ BadState n → ⊥
    pub table_disk : fault ≡ Table → Rose (faults table) (faults back)
    pub table_kept : TableKept Tells faults table back

-- Nothing was written or put; the reservoir is of the same log, and its open chunk is empty.
module _ {H : Type 0} (now : H → Option Image) (may : H → Image → Type 0) (clock : H → ℕ) (since : H → ℕ → Moment → Type 0) (said : H → Option (List ℕ)) (disk out : H → ℕ) where
  pub record LeavesLog (old new : H) (r s : Reservoir) : Type 0 where
    pub based : base s ≡ base r
    pub room : room_of s ≡ room_of r
    pub cap : (cache_of s).cap ≡ (cache_of r).cap
    pub empty : opened s ≡ []
    pub sound : IsSound (now old) (may old) r → IsSound (now new) (may new) s
    pub leaves : LeavesAll now may clock since said old new
    pub disk_faults : disk old ≤ disk new
    pub out_faults : out new ≡ out old
