-- What the faults of the layers below are to a reservoir, and its faults to a past.
use Rattle.rg_frame.specs.declared.fault.FrameFault.{FrameFault}
use Rattle.rg_frame.specs.declared.fault.FrameFault.TheVariants as frame
use Rattle.rg_past.specs.declared.past.PastFault.{PastFault}
use Rattle.rg_past.specs.declared.past.PastFault.TheVariants as past
use Rattle.rg_reservoir.specs.declared.fault.ReservoirFault.{ReservoirFault}
use Rattle.rg_reservoir.specs.declared.fault.ReservoirFault.TheVariants.{Disk, Damaged, SchemaDiffers, Full, Memory, Ended}

-- a fault of a log of frames
abbrev pub of_frame : FrameFault → ReservoirFault
of_frame frame.Disk = Disk
of_frame (frame.Damaged place) = Damaged place
of_frame frame.Memory = Memory
of_frame frame.Ended = Ended

-- a fault of a reservoir that is open, for a past; no call on one tells that the schema differs, so that one may be any
abbrev pub to_past : ReservoirFault → PastFault
to_past Disk = past.Disk
to_past (Damaged place) = past.Damaged place
to_past SchemaDiffers = past.Damaged 0
to_past Full = past.Full
to_past Memory = past.Memory
to_past Ended = past.Ended
