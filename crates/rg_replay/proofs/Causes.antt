-- Which fault of the engine, or of the log, a fault of a replay is.
use Rattle.std.proofs.Common.{◌≡◌, inl, inr, ℕ, refl, ap}
use Rattle.rg_past.specs.declared.past.PastFault.TheVariants as past
use Rattle.rg_reservoir.specs.declared.fault.ReservoirFault.{ReservoirFault}
use Rattle.rg_reservoir.specs.declared.fault.ReservoirFault.TheVariants as log
use Rattle.rg_engine.specs.declared.fault.EngineFault.{EngineFault}
use Rattle.rg_engine.specs.declared.fault.EngineFault.TheVariants as engine
use Rattle.rg_replay.specs.declared.fault.ReplayFault.TheVariants.{Disk, Damaged, SchemaDiffers, Write}
use Rattle.rg_replay.specs.Faults.{of_reservoir, of_engine, IsFromOutside}
use Rattle.rg_replay.specs.Going.{IsOutside}
use Rattle.rg_replay.specs.Playing.{IsExpected}

pub outside_by : (fault : EngineFault) → IsOutside fault → IsFromOutside (of_engine fault)
outside_by (engine.Past past.Disk) is = inl refl
outside_by (engine.Past (past.Damaged place)) is = absurd is
outside_by (engine.Past past.Full) is = absurd is
outside_by (engine.Past past.Memory) is = inr refl
outside_by (engine.Past past.Ended) is = inr refl
outside_by (engine.BadState node) is = absurd is
outside_by engine.Memory is = inr refl
outside_by engine.Ended is = inr refl
outside_by engine.Table is = inr refl

pub disk_by : (fault : EngineFault) → of_engine fault ≡ Disk → fault ≡ engine.Past past.Disk
disk_by (engine.Past past.Disk) is = refl
disk_by (engine.Past (past.Damaged place)) is = absurd cc
disk_by (engine.Past past.Full) is = absurd cc
disk_by (engine.Past past.Memory) is = absurd cc
disk_by (engine.Past past.Ended) is = absurd cc
disk_by (engine.BadState node) is = absurd cc
disk_by engine.Memory is = absurd cc
disk_by engine.Ended is = absurd cc
disk_by engine.Table is = absurd cc

pub damaged_by : (fault : EngineFault) (p : ℕ) → of_engine fault ≡ Damaged p → fault ≡ engine.Past (past.Damaged p)
damaged_by (engine.Past past.Disk) p is = absurd cc
damaged_by (engine.Past (past.Damaged place)) p is = let e : place ≡ p = cc in ap (λ (m : ℕ). engine.Past (past.Damaged m)) e
damaged_by (engine.Past past.Full) p is = absurd cc
damaged_by (engine.Past past.Memory) p is = absurd cc
damaged_by (engine.Past past.Ended) p is = absurd cc
damaged_by (engine.BadState node) p is = absurd cc
damaged_by engine.Memory p is = absurd cc
damaged_by engine.Ended p is = absurd cc
damaged_by engine.Table p is = absurd cc

pub not_write : (fault : EngineFault) → of_engine fault ≡ Write → ⊥
not_write (engine.Past past.Disk) is = absurd cc
not_write (engine.Past (past.Damaged place)) is = absurd cc
not_write (engine.Past past.Full) is = absurd cc
not_write (engine.Past past.Memory) is = absurd cc
not_write (engine.Past past.Ended) is = absurd cc
not_write (engine.BadState node) is = absurd cc
not_write engine.Memory is = absurd cc
not_write engine.Ended is = absurd cc
not_write engine.Table is = absurd cc

pub not_differs : (fault : EngineFault) → of_engine fault ≡ SchemaDiffers → ⊥
not_differs (engine.Past past.Disk) is = absurd cc
not_differs (engine.Past (past.Damaged place)) is = absurd cc
not_differs (engine.Past past.Full) is = absurd cc
not_differs (engine.Past past.Memory) is = absurd cc
not_differs (engine.Past past.Ended) is = absurd cc
not_differs (engine.BadState node) is = absurd cc
not_differs engine.Memory is = absurd cc
not_differs engine.Ended is = absurd cc
not_differs engine.Table is = absurd cc

pub log_expected : (fault : ReservoirFault) → ((p : ℕ) → fault ≡ log.Damaged p → ⊥) → (fault ≡ log.SchemaDiffers → ⊥) → IsExpected (of_reservoir fault)
log_expected log.Disk damaged differs = inl refl
log_expected (log.Damaged p) damaged differs = absurd (damaged p refl)
log_expected log.SchemaDiffers damaged differs = absurd (differs refl)
log_expected log.Full damaged differs = inr (inl refl)
log_expected log.Memory damaged differs = inr (inl refl)
log_expected log.Ended damaged differs = inr (inl refl)

pub log_disk : (fault : ReservoirFault) → of_reservoir fault ≡ Disk → fault ≡ log.Disk
log_disk log.Disk is = refl
log_disk (log.Damaged p) is = absurd cc
log_disk log.SchemaDiffers is = absurd cc
log_disk log.Full is = absurd cc
log_disk log.Memory is = absurd cc
log_disk log.Ended is = absurd cc

pub log_damaged : (fault : ReservoirFault) (p : ℕ) → of_reservoir fault ≡ Damaged p → fault ≡ log.Damaged p
log_damaged log.Disk p is = absurd cc
log_damaged (log.Damaged place) p is = let e : place ≡ p = cc in ap (λ (m : ℕ). log.Damaged m) e
log_damaged log.SchemaDiffers p is = absurd cc
log_damaged log.Full p is = absurd cc
log_damaged log.Memory p is = absurd cc
log_damaged log.Ended p is = absurd cc

pub log_differs : (fault : ReservoirFault) → of_reservoir fault ≡ SchemaDiffers → fault ≡ log.SchemaDiffers
log_differs log.Disk is = absurd cc
log_differs (log.Damaged p) is = absurd cc
log_differs log.SchemaDiffers is = refl
log_differs log.Full is = absurd cc
log_differs log.Memory is = absurd cc
log_differs log.Ended is = absurd cc

pub log_not_write : (fault : ReservoirFault) → of_reservoir fault ≡ Write → ⊥
log_not_write log.Disk is = absurd cc
log_not_write (log.Damaged p) is = absurd cc
log_not_write log.SchemaDiffers is = absurd cc
log_not_write log.Full is = absurd cc
log_not_write log.Memory is = absurd cc
log_not_write log.Ended is = absurd cc
