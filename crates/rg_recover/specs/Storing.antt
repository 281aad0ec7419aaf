-- What a call does that stores the open chunk of a reservoir.
use Rattle.std.specs.Prelude.{◌≡◌, ◌≤◌, ◌<◌, ℕ, List, Option, Result, length, false, OnOk, IfErr}
use Rattle.rg_bytes.specs.Counts.{Rose}
use Rattle.rg_host.specs.Image.{Image}
use Rattle.rg_host.specs.Moments.{Moment}
use Rattle.rg_past.specs.declared.past.Spot.{Spot}
use Rattle.rg_frame.specs.LogState.{ReachesEnd}
use Rattle.rg_config.specs.Plans.{Planned}
use Rattle.rg_state.specs.Rows.{Cells}
use Rattle.rg_reservoir.specs.Kept.{base, view_of, opened, room_of, cache_of, log_of, next_of, time_of, stored, all_events, IsSound, Spells}
use Rattle.rg_reservoir.specs.declared.reservoir.Reservoir.{Reservoir}
use Rattle.rg_open.specs.Stores.{store_of}
use Rattle.rg_open.specs.Opened.{IsOpenedFor, IsInStep}
use Rattle.rg_recover.specs.Sessions.{count_in}
use Rattle.rg_recover.specs.Sparing.{IsSpared}
use Rattle.rg_task.specs.Stepping.{IsWithinStep, IsStored}
use Rattle.rg_recover.specs.Stepping.{SlotsStay}
use Rattle.rg_recover.specs.declared.fault.TaskFault.{TaskFault}
use Rattle.rg_recover.specs.declared.fault.TaskFault.TheVariants.{Disk, Damaged, BadState, Memory, Ended, Table}

-- The open chunk is within its room, which is one event at least; the log hasn't ended, and reaches its end as reads give it.
pub record CanStore (now : Option Image) (r : Reservoir) : Type 0 where
  pub some_room : 1 ≤ room_of r
  pub few : room_of r ≤ 4096
  pub fits : length (opened r) ≤ room_of r
  pub going : (base r).ended ≡ false
  pub reaches : ReachesEnd (log_of r) now

-- why a chunk wasn't stored: a count of faults rose, or memory ran out and nothing was touched
abbrev pub HasStoringCause : Type 0 → Type 0 → TaskFault → Type 0
HasStoringCause has_risen is_untouched Disk = has_risen
HasStoringCause has_risen is_untouched (Damaged place) = ⊥
HasStoringCause has_risen is_untouched (BadState node) = ⊥
HasStoringCause has_risen is_untouched Memory = is_untouched
HasStoringCause has_risen is_untouched Ended = ⊥
HasStoringCause has_risen is_untouched Table = ⊥

module _ {H : Type 0} (now : H → Option Image) (may : H → Image → Type 0) where
  -- The open chunk of a log is stored, or it is open still; events, spelled spots and the slots' files are as they were.
  pub record HasStored (r s : Reservoir) (old new : H) : Type 0 where
    pub going : (base s).ended ≡ false
    pub step : (plan : Planned) (keep : Option ℕ) → IsOpenedFor plan (now old) (may old) r → IsStored (store_of plan) keep (opened r) (stored (now old) (base r)) (stored (now new) (base s)) (may old) (may new)
    pub log : (plan : Planned) → IsOpenedFor plan (now old) (may old) r → IsOpenedFor plan (now new) (may new) s
    pub in_step : (plan : Planned) (cells : Cells) (spots : List Spot) (texts : List (List ℕ)) → IsInStep plan (now old) (may old) r cells spots texts → IsInStep plan (now new) (may new) s cells spots texts
    pub slots : SlotsStay (now old) (now new) (may old) (may new)
    pub spelled : IsSound (now old) (may old) r → (spot : Spot) → Spells (now old) (base r) (opened r) spot → Spells (now new) (base s) (opened s) spot
    pub events : IsSound (now old) (may old) r → all_events (now new) (base s) (opened s) ≡ all_events (now old) (base r) (opened r)

module _ {H : Type 0} (now : H → Option Image) (may : H → Image → Type 0) (clock : H → ℕ) (since : H → ℕ → Moment → Type 0) (said : H → Option (List ℕ)) where
  -- Over the log of a plan each moment of the call is within a step that stores the open chunk, and at its end the step is done; no slot
  -- is written.
  pub record StoresChunk {A : Type 0} (result : Result A TaskFault) (r s : Reservoir) (old new : H) : Type 0 where
    pub within : (plan : Planned) (keep : Option ℕ) → IsOpenedFor plan (now old) (may old) r → IsWithinStep may clock since said (store_of plan) keep (opened r) old new
    pub done : OnOk result (HasStored now may r s old new)
    pub spared : (slot : ℕ) → slot < 2 → IsSpared now may clock since slot old new

module _ {H : Type 0} (said : H → Option (List ℕ)) (disk_faults out_faults : H → ℕ) where
  -- What stays of a log, of its rooms and of what was put, and no count of faults falls.
  pub record KeepsLog (r s : Reservoir) (old new : H) : Type 0 where
    pub view : view_of (base s) ≡ view_of (base r)
    pub file : (base s).file ≡ (base r).file
    pub limit : (base s).limit ≡ (base r).limit
    pub room : room_of s ≡ room_of r
    pub cap : (cache_of s).cap ≡ (cache_of r).cap
    pub more : (base r).committed ≤ (base s).committed
    pub said_stays : said new ≡ said old
    pub disk_faults_grow : disk_faults old ≤ disk_faults new
    pub out_faults_stay : out_faults new ≡ out_faults old

module _ {H : Type 0} (now : H → Option Image) (said : H → Option (List ℕ)) (disk_faults out_faults : H → ℕ) where
  -- The log is kept and no event is added: their number, the next offset and the last time stay, and the log reaches
  -- its end.
  pub record KeepsEvents (r s : Reservoir) (old new : H) : Type 0 where
    pub log : KeepsLog said disk_faults out_faults r s old new
    pub count : count_in s ≡ count_in r
    pub fewer : length (opened s) ≤ length (opened r)
    pub next : next_of s ≡ next_of r
    pub last : time_of s ≡ time_of r
    pub reaches : ReachesEnd (log_of s) (now new)

module _ {H : Type 0} (disk_faults : H → ℕ) where
  -- The next event has room. Where it had room before, nothing was touched.
  pub record MakesRoom {A : Type 0} (result : Result A TaskFault) (r s : Reservoir) (old new : H) : Type 0 where
    pub room : OnOk result (length (opened s) < room_of s)
    pub untouched : length (opened r) < room_of r → (s ≡ r) × (new ≡ old)
    pub cause : IfErr result (HasStoringCause (Rose (disk_faults old) (disk_faults new)) ((s ≡ r) × (new ≡ old)))
