-- What the faults of an opening are to a run. Its table has no disk: that one, said as Memory, never comes.
use Rattle.std.specs.Prelude.{⊤}
use Rattle.rg_host.specs.Image.{Image}
use Rattle.rg_config.specs.Plans.{Planned}
use Rattle.rg_open.specs.Unfit.{HasOtherSchema, HasBadFrame}
use Rattle.rg_open.specs.declared.fault.OpenFault.{OpenFault}
use Rattle.rg_open.specs.declared.fault.OpenFault.TheVariants as opening
use Rattle.rg_run.specs.declared.fault.RunFault.{RunFault}
use Rattle.rg_run.specs.declared.fault.RunFault.TheVariants.{Disk, Damaged, SchemaDiffers, BadState, Gap, Read, Limit, Memory, Write}

-- a fault of an opening
abbrev pub of_open : OpenFault → RunFault
of_open opening.Disk = Disk
of_open (opening.Damaged place) = Damaged place
of_open opening.SchemaDiffers = SchemaDiffers
of_open (opening.BadState node) = BadState node
of_open opening.Memory = Memory
of_open opening.Table = Memory

-- the fault says why no run of the plan goes over the image, or a call on a file failed, or memory ran out
abbrev pub SaysWhy : Planned → Image → RunFault → Type 0
SaysWhy plan v Disk = ⊤
SaysWhy plan v (Damaged place) = HasBadFrame plan place v
SaysWhy plan v SchemaDiffers = HasOtherSchema plan v
SaysWhy plan v (BadState node) = ⊥
SaysWhy plan v (Gap next) = ⊥
SaysWhy plan v Read = ⊥
SaysWhy plan v Limit = ⊥
SaysWhy plan v Memory = ⊤
SaysWhy plan v Write = ⊥

-- the input begins behind the store's next offset, or a call on a file failed, or memory ran out
abbrev pub IsGapOrFailed : RunFault → Type 0
IsGapOrFailed Disk = ⊤
IsGapOrFailed (Damaged place) = ⊥
IsGapOrFailed SchemaDiffers = ⊥
IsGapOrFailed (BadState node) = ⊥
IsGapOrFailed (Gap next) = ⊤
IsGapOrFailed Read = ⊥
IsGapOrFailed Limit = ⊥
IsGapOrFailed Memory = ⊤
IsGapOrFailed Write = ⊥
