-- What a fault of a walk over a log is to a dump.
use Rattle.rg_reservoir.specs.declared.fault.ReservoirFault.{ReservoirFault}
use Rattle.rg_reservoir.specs.declared.fault.ReservoirFault.TheVariants as walk
use Rattle.rg_dump.specs.declared.fault.DumpFault.{DumpFault}
use Rattle.rg_dump.specs.declared.fault.DumpFault.TheVariants.{Disk, Damaged, Memory}

-- a walk answers none of the last three, so each of them may be any
abbrev pub of_walk : ReservoirFault → DumpFault
of_walk walk.Disk = Disk
of_walk (walk.Damaged place) = Damaged place
of_walk walk.Memory = Memory
of_walk walk.SchemaDiffers = Disk
of_walk walk.Full = Disk
of_walk walk.Ended = Disk
