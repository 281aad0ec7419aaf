-- Which fault of a layer below an opening's fault is.
use Rattle.std.proofs.Common.{◌≡◌, ◌≤◌, ◌⊎◌, inl, inr, ℕ, Option, Result, Err, refl, ap, arith}
use Rattle.rg_bytes.specs.Counts.{Rose}
use Rattle.rg_host.specs.Image.{Image}
use Rattle.rg_config.specs.declared.plan.Plan.{Plan}
use Rattle.rg_past.specs.declared.past.PastFault.TheVariants as past
use Rattle.rg_engine.specs.declared.fault.EngineFault.{EngineFault}
use Rattle.rg_engine.specs.declared.fault.EngineFault.TheVariants as engine
use Rattle.rg_checkpoint.specs.declared.fault.SlotFault.{SlotFault}
use Rattle.rg_checkpoint.specs.declared.fault.SlotFault.TheVariants as slots
use Rattle.rg_reservoir.specs.declared.fault.ReservoirFault.{ReservoirFault}
use Rattle.rg_reservoir.specs.declared.fault.ReservoirFault.TheVariants as reservoir
use Rattle.rg_open.specs.declared.fault.OpenFault.{OpenFault}
use Rattle.rg_open.specs.declared.fault.OpenFault.TheVariants.{Disk, Damaged, SchemaDiffers, BadState, Memory, Table}
use Rattle.rg_open.specs.Finds.{IsNotFound}
use Rattle.rg_open.specs.Faults.{of_slots, of_reservoir, of_engine}

pub same_fault : {A : Type 0} (e f : OpenFault) → ◌≡◌ {A = Result A OpenFault} (Err e) (Err f) → e ≡ f
same_fault e f is = cc

pub slots_disk : (fault : SlotFault) → of_slots fault ≡ Disk → fault ≡ slots.Disk
slots_disk slots.Disk is = refl
slots_disk slots.Memory is = absurd cc
slots_disk slots.Ended is = absurd cc

pub log_disk : (fault : ReservoirFault) → of_reservoir fault ≡ Disk → fault ≡ reservoir.Disk
log_disk reservoir.Disk is = refl
log_disk (reservoir.Damaged place) is = absurd cc
log_disk reservoir.SchemaDiffers is = absurd cc
log_disk reservoir.Full is = absurd cc
log_disk reservoir.Memory is = absurd cc
log_disk reservoir.Ended is = absurd cc

pub log_damaged : (fault : ReservoirFault) (p : ℕ) → of_reservoir fault ≡ Damaged p → fault ≡ reservoir.Damaged p
log_damaged reservoir.Disk p is = absurd cc
log_damaged (reservoir.Damaged place) p is = let e : place ≡ p = cc in ap (λ (m : ℕ). reservoir.Damaged m) e
log_damaged reservoir.SchemaDiffers p is = absurd cc
log_damaged reservoir.Full p is = absurd cc
log_damaged reservoir.Memory p is = absurd cc
log_damaged reservoir.Ended p is = absurd cc

pub log_differs : (fault : ReservoirFault) → of_reservoir fault ≡ SchemaDiffers → fault ≡ reservoir.SchemaDiffers
log_differs reservoir.Disk is = absurd cc
log_differs (reservoir.Damaged place) is = absurd cc
log_differs reservoir.SchemaDiffers is = refl
log_differs reservoir.Full is = absurd cc
log_differs reservoir.Memory is = absurd cc
log_differs reservoir.Ended is = absurd cc

-- neither of these is a fault of the log
pub log_neither : (fault : ReservoirFault) → (of_reservoir fault ≡ Table → ⊥) × ((n : ℕ) → of_reservoir fault ≡ BadState n → ⊥)
log_neither reservoir.Disk = (λ is. cc, λ n is. cc)
log_neither (reservoir.Damaged place) = (λ is. cc, λ n is. cc)
log_neither reservoir.SchemaDiffers = (λ is. cc, λ n is. cc)
log_neither reservoir.Full = (λ is. cc, λ n is. cc)
log_neither reservoir.Memory = (λ is. cc, λ n is. cc)
log_neither reservoir.Ended = (λ is. cc, λ n is. cc)

pub bad_by : (fault : EngineFault) (n : ℕ) → of_engine fault ≡ BadState n → fault ≡ engine.BadState n
bad_by (engine.Past past.Disk) n is = absurd cc
bad_by (engine.Past (past.Damaged place)) n is = absurd cc
bad_by (engine.Past past.Full) n is = absurd cc
bad_by (engine.Past past.Memory) n is = absurd cc
bad_by (engine.Past past.Ended) n is = absurd cc
bad_by (engine.BadState node) n is = let e : node ≡ n = cc in ap (λ (m : ℕ). engine.BadState m) e
bad_by engine.Memory n is = absurd cc
bad_by engine.Ended n is = absurd cc
bad_by engine.Table n is = absurd cc

pub damaged_by : (fault : EngineFault) (p : ℕ) → of_engine fault ≡ Damaged p → fault ≡ engine.Past (past.Damaged p)
damaged_by (engine.Past past.Disk) p is = absurd cc
damaged_by (engine.Past (past.Damaged place)) p is = let e : place ≡ p = cc in ap (λ (m : ℕ). engine.Past (past.Damaged m)) e
damaged_by (engine.Past past.Full) p is = absurd cc
damaged_by (engine.Past past.Memory) p is = absurd cc
damaged_by (engine.Past past.Ended) p is = absurd cc
damaged_by (engine.BadState node) p is = absurd cc
damaged_by engine.Memory p is = absurd cc
damaged_by engine.Ended p is = absurd cc
damaged_by engine.Table p is = absurd cc

pub disk_by : (fault : EngineFault) → of_engine fault ≡ Disk → fault ≡ engine.Past past.Disk
disk_by (engine.Past past.Disk) is = refl
disk_by (engine.Past (past.Damaged place)) is = absurd cc
disk_by (engine.Past past.Full) is = absurd cc
disk_by (engine.Past past.Memory) is = absurd cc
disk_by (engine.Past past.Ended) is = absurd cc
disk_by (engine.BadState node) is = absurd cc
disk_by engine.Memory is = absurd cc
disk_by engine.Ended is = absurd cc
disk_by engine.Table is = absurd cc

pub table_by : (fault : EngineFault) → of_engine fault ≡ Table → fault ≡ engine.Table
table_by (engine.Past past.Disk) is = absurd cc
table_by (engine.Past (past.Damaged place)) is = absurd cc
table_by (engine.Past past.Full) is = absurd cc
table_by (engine.Past past.Memory) is = absurd cc
table_by (engine.Past past.Ended) is = absurd cc
table_by (engine.BadState node) is = absurd cc
table_by engine.Memory is = absurd cc
table_by engine.Ended is = absurd cc
table_by engine.Table is = refl

pub never_differs : (fault : EngineFault) → of_engine fault ≡ SchemaDiffers → ⊥
never_differs (engine.Past past.Disk) is = cc
never_differs (engine.Past (past.Damaged place)) is = cc
never_differs (engine.Past past.Full) is = cc
never_differs (engine.Past past.Memory) is = cc
never_differs (engine.Past past.Ended) is = cc
never_differs (engine.BadState node) is = cc
never_differs engine.Memory is = cc
never_differs engine.Ended is = cc
never_differs engine.Table is = cc

-- a count that rose is not below where it began, nor where it went on
pub rose_first : (a b c : ℕ) → Rose a b → b ≤ c → Rose a c
rose_first a b c rose later = omega (arith, rose, later)

pub rose_last : (a b c : ℕ) → a ≤ b → Rose b c → Rose a c
rose_last a b c later rose = omega (arith, later, rose)

-- where a call on a file failed, or memory ran out
pub slots_unread : (plan : Plan) (now : Option Image) (may : Image → Type 0) (rose : Type 0) (fault : OpenFault) → (fault ≡ Disk) ⊎ (fault ≡ Memory) → (fault ≡ Disk → rose) → IsNotFound plan now may rose fault
slots_unread plan now may rose fault (inl e) rises = record {
  disk = rises;
  damaged = λ p is. absurd cc;
  undamaged = λ v events p told has is. cc;
  never_damaged = λ p openable is. cc;
  differs = λ is. absurd cc;
  never_differs = λ openable is. cc;
  no_state = λ n is. cc;
  no_table = λ is. cc;
}
slots_unread plan now may rose fault (inr e) rises = record {
  disk = rises;
  damaged = λ p is. absurd cc;
  undamaged = λ v events p told has is. cc;
  never_damaged = λ p openable is. cc;
  differs = λ is. absurd cc;
  never_differs = λ openable is. cc;
  no_state = λ n is. cc;
  no_table = λ is. cc;
}
