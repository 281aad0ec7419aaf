-- What the faults below are here.
use Rattle.std.specs.Prelude.{◌≡◌, ◌⊎◌}
use Rattle.rg_checkpoint.specs.declared.fault.SlotFault.{SlotFault}
use Rattle.rg_checkpoint.specs.declared.fault.SlotFault.TheVariants as slot
use Rattle.rg_reservoir.specs.declared.fault.ReservoirFault.{ReservoirFault}
use Rattle.rg_reservoir.specs.declared.fault.ReservoirFault.TheVariants as log
use Rattle.rg_verify.specs.declared.fault.VerifyFault.{VerifyFault}
use Rattle.rg_verify.specs.declared.fault.VerifyFault.TheVariants.{Disk, Damaged, SchemaDiffers, Memory, Write}

-- of reading a log: that it is of another schema, is full or has ended never comes
abbrev pub of_log : ReservoirFault → VerifyFault
of_log log.Disk = Disk
of_log (log.Damaged place) = Damaged place
of_log log.Memory = Memory
of_log log.SchemaDiffers = SchemaDiffers
of_log log.Full = Memory
of_log log.Ended = Memory

-- of reading the slots: that they have ended never comes
abbrev pub of_slot : SlotFault → VerifyFault
of_slot slot.Disk = Disk
of_slot slot.Memory = Memory
of_slot slot.Ended = Memory

-- a fault that doesn't come of what the store holds
abbrev pub IsFromOutside : VerifyFault → Type 0
IsFromOutside fault = (fault ≡ Disk) ⊎ (fault ≡ Memory) ⊎ (fault ≡ Write)
