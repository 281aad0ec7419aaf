-- What a survey of a log says, and how far it has come.
use Rattle.std.specs.Prelude.{◌≡◌, ◌⊎◌, ◌+◌, ◌<◌, ◌≤◌, ◌^◌, ℕ, List, ◌++◌, Some, None}
use Rattle.rg_frame.specs.Looks.{IsClosed}
use Rattle.rg_reservoir.specs.Walked.{place_of, IsRefusedWalk}
use Rattle.rg_reservoir.specs.declared.walk.Stage.{Stage}
use Rattle.rg_reservoir.specs.declared.walk.Stage.TheVariants as stage
use Rattle.rg_reservoir.specs.declared.walk.Walk.{Walk}
use Rattle.rg_dump.specs.Behind.{known_behind, values_of}
use Rattle.rg_dump.specs.Stages.{stages_of}
use Rattle.rg_dump.specs.declared.fault.DumpFault.{DumpFault}
use Rattle.rg_dump.specs.declared.fault.DumpFault.TheVariants.{Disk, Memory}
use Rattle.rg_dump.specs.declared.survey.Survey.{Survey}

-- that of frames: the schema in force behind them, if one is, and the values of their growths
abbrev pub survey_of : List Stage → Survey
survey_of stages = record { schema = known_behind None stages; values = values_of stages }

-- that of the log of a file, up to where it ends or is damaged
abbrev pub survey_in : List ℕ → Survey
survey_in bytes = survey_of (stages_of bytes).stages

-- with one frame more
abbrev pub with_stage : Survey → Stage → Survey
with_stage survey (stage.Schema shape) = record { schema = Some shape; values = survey.values }
with_stage survey (stage.Chunk events) = survey
with_stage survey (stage.Growth shape values) = record { schema = Some shape; values = survey.values ++ values }

-- the walk has come to where the log ends or is damaged
abbrev pub IsLast : List ℕ → Walk → Type 0
IsLast bytes walk = IsClosed (place_of walk) bytes ⊎ IsRefusedWalk bytes walk

-- the walk has passed a frame
abbrev pub HasPassed : Walk → Walk → Type 0
HasPassed old new = (place_of old + 9 ≤ place_of new) × (place_of new < 2 ^ 62)

-- why it can't be told
abbrev pub IsUnsurveyed : Type 0 → DumpFault → Type 0
IsUnsurveyed disk_rose fault = (fault ≡ Memory) ⊎ ((fault ≡ Disk) × disk_rose)
