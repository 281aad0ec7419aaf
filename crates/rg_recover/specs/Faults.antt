-- What the faults of the layers below are to a session.
use Rattle.rg_past.specs.declared.past.PastFault.TheVariants as past
use Rattle.rg_engine.specs.declared.fault.EngineFault.{EngineFault}
use Rattle.rg_engine.specs.declared.fault.EngineFault.TheVariants as engine
use Rattle.rg_reservoir.specs.declared.fault.ReservoirFault.{ReservoirFault}
use Rattle.rg_reservoir.specs.declared.fault.ReservoirFault.TheVariants as reservoir
use Rattle.rg_recover.specs.declared.fault.TaskFault.{TaskFault}
use Rattle.rg_recover.specs.declared.fault.TaskFault.TheVariants.{Disk, Damaged, BadState, Memory, Ended, Table}

-- a fault of the engine
abbrev pub of_engine : EngineFault → TaskFault
of_engine (engine.Past past.Disk) = Disk
of_engine (engine.Past (past.Damaged place)) = Damaged place
of_engine (engine.Past past.Full) = Ended
of_engine (engine.Past past.Memory) = Memory
of_engine (engine.Past past.Ended) = Ended
of_engine (engine.BadState node) = BadState node
of_engine engine.Memory = Memory
of_engine engine.Ended = Ended
of_engine engine.Table = Table

-- a fault of the reservoir
abbrev pub of_reservoir : ReservoirFault → TaskFault
of_reservoir reservoir.Disk = Disk
of_reservoir (reservoir.Damaged place) = Damaged place
of_reservoir reservoir.SchemaDiffers = Damaged 0
of_reservoir reservoir.Full = Ended
of_reservoir reservoir.Memory = Memory
of_reservoir reservoir.Ended = Ended
