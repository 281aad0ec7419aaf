-- A session and its host, as a task sees them.
use Rattle.std.specs.Prelude.{◌≡◌, ◌<◌, ℕ, false, List, length, Option, Some}
use Rattle.std.specs.Option.{ForSome}
use Rattle.rg_host.specs.Image.{Image}
use Rattle.rg_checkpoint.specs.Sizes.{end_of}
use Rattle.rg_checkpoint.specs.declared.sizes.SlotSizes.{SlotSizes}
use Rattle.rg_reservoir.specs.Chain.{IsIllegalBy}
use Rattle.rg_reservoir.specs.Kept.{base, view_of, opened, log_of, next_of}
use Rattle.rg_recover.specs.Sessions.{Sitting, events_of, stored_of}
use Rattle.rg_recover.specs.declared.fault.TaskFault.{TaskFault as SessionFault}
use Rattle.rg_recover.specs.declared.fault.TaskFault.TheVariants as session
use Rattle.rg_task.specs.State.{State}
use Rattle.rg_task.specs.declared.fault.TaskFault.{TaskFault}
use Rattle.rg_task.specs.declared.fault.TaskFault.TheVariants.{Disk, Damaged, BadState, Memory, Ended}

-- what a session holds, where reads of its files give this image
abbrev pub state_of : {T : Type 0} → Option Image → Sitting T → State
state_of now s = record { events = events_of now s; stored = stored_of now s; chunk = opened s.reservoir; keep = s.keep; next = next_of s.reservoir; ended = s.ended }

-- what stands at that place of its log is damaged
abbrev pub IsIllegalIn : {T : Type 0} → Option Image → Sitting T → ℕ → Type 0
IsIllegalIn now s place = ForSome now (λ v. IsIllegalBy (view_of (base s.reservoir)) place (v (base s.reservoir).file))

-- the view and the file of its log are those
abbrev pub SameLog : {T : Type 0} → Sitting T → Sitting T → Type 0
SameLog old new = (view_of (base new.reservoir) ≡ view_of (base old.reservoir)) × ((base new.reservoir).file ≡ (base old.reservoir).file)

-- the file of a log that has come to that place is longer, or has at most one byte while the place is 0
abbrev pub IsLong : ℕ → List ℕ → Type 0
IsLong end bytes = (0 < end → end < length bytes) × (1 < length bytes → end < length bytes)

-- the file of a slot is longer than the place where frames of the sizes end that are known of it
abbrev pub IsLongSlot : Option SlotSizes → List ℕ → Type 0
IsLongSlot known bytes = (sizes : SlotSizes) → known ≡ Some sizes → end_of sizes < length bytes

-- so they are of the log and the slots of a session that hasn't ended
abbrev pub IsReaching : {T : Type 0} → Sitting T → Option Image → Type 0
IsReaching s now = s.ended ≡ false → ((log_of s.reservoir).ended ≡ false → ForSome now (λ v. IsLong (log_of s.reservoir).end (v (log_of s.reservoir).file)))
    × (s.slots.ended ≡ false → ForSome now (λ v. IsLongSlot s.slots.first_sizes (v 0) × IsLongSlot s.slots.second_sizes (v 1)))

-- a fault of a session is this one of its task: its table's disk is one of the task's
abbrev pub of_session : SessionFault → TaskFault
of_session session.Disk = Disk
of_session (session.Damaged place) = Damaged place
of_session (session.BadState node) = BadState node
of_session session.Memory = Memory
of_session session.Ended = Ended
of_session session.Table = Disk
