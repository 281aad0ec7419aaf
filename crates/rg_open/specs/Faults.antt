-- What the faults of the layers below are to an opening.
use Rattle.rg_past.specs.declared.past.PastFault.TheVariants as past
use Rattle.rg_engine.specs.declared.fault.EngineFault.{EngineFault}
use Rattle.rg_engine.specs.declared.fault.EngineFault.TheVariants as engine
use Rattle.rg_checkpoint.specs.declared.fault.SlotFault.{SlotFault}
use Rattle.rg_checkpoint.specs.declared.fault.SlotFault.TheVariants as slots
use Rattle.rg_reservoir.specs.declared.fault.ReservoirFault.{ReservoirFault}
use Rattle.rg_reservoir.specs.declared.fault.ReservoirFault.TheVariants as reservoir
use Rattle.rg_open.specs.declared.fault.OpenFault.{OpenFault}
use Rattle.rg_open.specs.declared.fault.OpenFault.TheVariants.{Disk, Damaged, SchemaDiffers, BadState, Memory, Table}

-- a fault of the slots
abbrev pub of_slots : SlotFault → OpenFault
of_slots slots.Disk = Disk
of_slots slots.Memory = Memory
of_slots slots.Ended = Memory

-- a fault of the reservoir
abbrev pub of_reservoir : ReservoirFault → OpenFault
of_reservoir reservoir.Disk = Disk
of_reservoir (reservoir.Damaged place) = Damaged place
of_reservoir reservoir.SchemaDiffers = SchemaDiffers
of_reservoir reservoir.Full = Memory
of_reservoir reservoir.Memory = Memory
of_reservoir reservoir.Ended = Memory

-- a fault of the engine
abbrev pub of_engine : EngineFault → OpenFault
of_engine (engine.Past past.Disk) = Disk
of_engine (engine.Past (past.Damaged place)) = Damaged place
of_engine (engine.Past past.Full) = Memory
of_engine (engine.Past past.Memory) = Memory
of_engine (engine.Past past.Ended) = Memory
of_engine (engine.BadState node) = BadState node
of_engine engine.Memory = Memory
of_engine engine.Ended = Memory
of_engine engine.Table = Table
