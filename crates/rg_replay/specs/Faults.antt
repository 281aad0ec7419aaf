-- What the faults of a log, of an engine and of a put are to a replay.
use Rattle.std.specs.Prelude.{◌≡◌, ◌⊎◌}
use Rattle.rg_past.specs.declared.past.PastFault.TheVariants as past
use Rattle.rg_reservoir.specs.declared.fault.ReservoirFault.{ReservoirFault}
use Rattle.rg_reservoir.specs.declared.fault.ReservoirFault.TheVariants as log
use Rattle.rg_engine.specs.declared.fault.EngineFault.{EngineFault}
use Rattle.rg_engine.specs.declared.fault.EngineFault.TheVariants as engine
use Rattle.rg_replay.specs.declared.fault.ReplayFault.{ReplayFault}
use Rattle.rg_replay.specs.declared.fault.ReplayFault.TheVariants.{Disk, Damaged, SchemaDiffers, BadState, Memory}

-- of a log that is opened to be read; that it is full or has ended never comes
abbrev pub of_reservoir : ReservoirFault → ReplayFault
of_reservoir log.Disk = Disk
of_reservoir (log.Damaged place) = Damaged place
of_reservoir log.SchemaDiffers = SchemaDiffers
of_reservoir log.Full = Memory
of_reservoir log.Memory = Memory
of_reservoir log.Ended = Memory

-- of the engine of a replay; that its past is full, that it or its past has ended, and that a call of its table failed never comes
abbrev pub of_engine : EngineFault → ReplayFault
of_engine (engine.Past past.Disk) = Disk
of_engine (engine.Past (past.Damaged place)) = Damaged place
of_engine (engine.Past past.Full) = Memory
of_engine (engine.Past past.Memory) = Memory
of_engine (engine.Past past.Ended) = Memory
of_engine (engine.BadState node) = BadState node
of_engine engine.Memory = Memory
of_engine engine.Ended = Memory
of_engine engine.Table = Memory

-- a call on the file failed, or memory ran out
abbrev pub IsFromOutside : ReplayFault → Type 0
IsFromOutside fault = (fault ≡ Disk) ⊎ (fault ≡ Memory)
