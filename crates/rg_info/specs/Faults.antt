-- What the faults below are here.
use Rattle.rg_checkpoint.specs.declared.fault.SlotFault.{SlotFault}
use Rattle.rg_checkpoint.specs.declared.fault.SlotFault.TheVariants as slot
use Rattle.rg_reservoir.specs.declared.fault.ReservoirFault.{ReservoirFault}
use Rattle.rg_reservoir.specs.declared.fault.ReservoirFault.TheVariants as walk
use Rattle.rg_info.specs.declared.fault.InfoFault.{InfoFault}
use Rattle.rg_info.specs.declared.fault.InfoFault.TheVariants.{Disk, Damaged, Memory}

-- a walk answers none of the last three, so each of them may be any
abbrev pub of_walk : ReservoirFault → InfoFault
of_walk walk.Disk = Disk
of_walk (walk.Damaged place) = Damaged place
of_walk walk.Memory = Memory
of_walk walk.SchemaDiffers = Disk
of_walk walk.Full = Disk
of_walk walk.Ended = Disk

-- reading the slots never answers the last one, so it may be any
abbrev pub of_slot : SlotFault → InfoFault
of_slot slot.Disk = Disk
of_slot slot.Memory = Memory
of_slot slot.Ended = Disk
