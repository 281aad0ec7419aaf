-- What an opening leaves to a run.
use Rattle.std.specs.Prelude.{◌≡◌, ◌⊎◌, ◌≤◌, ℕ, List, [], length, false, Option, Some}
use Rattle.std.specs.Option.{ForSome}
use Rattle.rg_bytes.specs.Counts.{Rose}
use Rattle.rg_host.specs.Image.{Image}
use Rattle.rg_host.specs.Moments.{Moment}
use Rattle.rg_event.specs.Rising.{next_offset}
use Rattle.rg_event.specs.declared.event.Event.{Event}
use Rattle.rg_frame.specs.LogState.{ReachesEnd}
use Rattle.rg_config.specs.Plans.{Planned}
use Rattle.rg_state.specs.Changes.{Marks}
use Rattle.rg_state.specs.Rows.{Cells}
use Rattle.rg_reservoir.specs.Attached.{OpensView, IsIllegalOpened}
use Rattle.rg_reservoir.specs.Kept.{base, view_of, log_of, next_of}
use Rattle.rg_checkpoint.specs.Slots.{ReachesSlots}
use Rattle.rg_run_spec.specs.Steps.{IsAtRest}
use Rattle.rg_open.specs.Stores.{store_of, Has}
use Rattle.rg_open.specs.Blame.{IsBlamed, NodeRuns, IsPlaced}
use Rattle.rg_open.specs.Opening.{IsOpenable, IsFromIn}
use Rattle.rg_open.specs.Unfit.{HasOtherSchema, HasBadFrame, IsUnfit, IsLeftAlone}
use Rattle.rg_open.specs.Within.{IsWithinOpening, IsAfterOpening}
use Rattle.rg_recover.specs.Sessions.{Sitting, IsRunning, count_in, events_of, stored_of}
use Rattle.rg_run.specs.Begun.{Begun, course_for}
use Rattle.rg_recover.specs.RunFaults.{SaysWhy, IsGapOrFailed}
use Rattle.rg_run.specs.declared.fault.RunFault.{RunFault}
use Rattle.rg_run.specs.declared.fault.RunFault.TheVariants.{Disk, Damaged, SchemaDiffers, BadState, Gap, Read, Limit, Write}

-- A store was opened for a run, and nothing of its input is read or answered yet. It has so many events, and the next offset is this one.
pub record IsToBegin {T : Type 0} (plan : Planned) (b : Begun) (left : Option (List ℕ)) (next count from offset : ℕ) (now : Option Image) (may : Image → Type 0) (said : Option (List ℕ)) (Tells : T → Type 0) (cell : T → Cells) (named there : T → Marks) (s : Sitting T) : Type 0 where
  pub at_rest : IsAtRest (store_of plan) (course_for plan b) [] b.held s.keep may
  pub told : said ≡ Some b.said
  pub comes : left ≡ Some b.input
  pub offset_is : offset ≡ b.first
  pub running : IsRunning plan now may Tells cell named there s
  pub events : events_of now s ≡ b.held
  pub stored : stored_of now s ≡ b.held
  pub next_is : next ≡ next_offset b.held
  pub count_is : count ≡ length b.held
  pub from_is : from ≡ b.from

module _ {H : Type 0} (now : H → Option Image) (may : H → Image → Type 0) where
  -- The store of a plan was opened, from old to new, and this session goes on from it. The store has so many events, the checkpoint
  -- that was used has the first `from` of them, and the next offset is `next`.
  pub record IsOpened {T : Type 0} (plan : Planned) (next count from : ℕ) (Tells : T → Type 0) (cell : T → Cells) (named there : T → Marks) (s : Sitting T) (old new : H) : Type 0 where
    pub running : IsOpenable plan (now old) (may old) → IsRunning plan (now new) (may new) Tells cell named there s
    pub is_from : (v : Image) → now old ≡ Some v → IsOpenable plan (now old) (may old) → IsFromIn plan v from
    pub stepped : (v : Image) (keep : Option ℕ) → now old ≡ Some v → (u : Image) → may new u → IsAfterOpening plan keep v (may old) u
    pub events : (v : Image) (events : List Event) → now old ≡ Some v → Has plan events v → (events_of (now new) s ≡ events) × (stored_of (now new) s ≡ events) × (next ≡ next_offset events)
    pub node : (v : Image) (events : List Event) (n : ℕ) → now old ≡ Some v → Has plan events v → (NodeRuns plan n (now new) (may new) (Tells s.engine.table) (cell s.engine.table) s.reservoir s.engine → ⊥) → IsBlamed plan v events n
    pub placed : (v : Image) (events : List Event) → now old ≡ Some v → Has plan events v → IsPlaced plan (now new) (may new) s.reservoir s.engine
    pub fit : (v : Image) → now old ≡ Some v → IsUnfit plan v → ⊥
    pub going : s.ended ≡ false
    pub reaches : ReachesEnd (log_of s.reservoir) (now new)
    pub slots_reach : ReachesSlots s.slots (now new)
    pub view : ForSome (now old) (λ u. OpensView plan.shape plan.defaults (view_of (base s.reservoir)) (u 2))
    pub log : ((base s.reservoir).shape ≡ plan.shape) × ((base s.reservoir).file ≡ 2)
    pub numbers : (next ≡ next_of s.reservoir) × (count ≡ count_in s.reservoir)

module _ {H : Type 0} (now : H → Option Image) (may : H → Image → Type 0) (clock : H → ℕ) (since : H → ℕ → Moment → Type 0) (said : H → Option (List ℕ)) (disk_faults out_faults : H → ℕ) where
  -- The store of a plan was not opened, from old to new, for this fault, and the fault has its cause.
  pub record IsTurnedAway (plan : Planned) (fault : RunFault) (old new : H) : Type 0 where
    pub over_ready : IsOpenable plan (now old) (may old) → IsGapOrFailed fault
    pub unfit : (v : Image) → now old ≡ Some v → IsUnfit plan v → IsLeftAlone now may clock since said v old new × SaysWhy plan v fault
    pub bad : (v : Image) (events : List Event) (n : ℕ) → now old ≡ Some v → Has plan events v → fault ≡ BadState n → IsBlamed plan v events n
    pub undamaged : (v : Image) (events : List Event) (p : ℕ) → now old ≡ Some v → Has plan events v → fault ≡ Damaged p → ⊥
    pub differs : fault ≡ SchemaDiffers → ForSome (now old) (HasOtherSchema plan)
    pub damaged : (p : ℕ) → fault ≡ Damaged p → ForSome (now old) (HasBadFrame plan p) ⊎ ForSome (now old) (λ u. ForSome (now new) (λ v. IsIllegalOpened plan.shape plan.defaults (u 2) p (v 2)))
    pub disk : fault ≡ Disk → Rose (disk_faults old) (disk_faults new)
    pub others : (fault ≡ Read → ⊥) × (fault ≡ Limit → ⊥) × (fault ≡ Write → ⊥) × ((n : ℕ) → fault ≡ Gap n → ⊥)

  -- What an opening does from old to new, whether the store was opened or not: nothing was put.
  pub record OpensOnly (plan : Planned) (old new : H) : Type 0 where
    pub within : (v : Image) (keep : Option ℕ) → now old ≡ Some v → IsWithinOpening may clock since said plan keep v old new
    pub disk_faults_grow : disk_faults old ≤ disk_faults new
    pub out_faults_stay : out_faults new ≡ out_faults old
