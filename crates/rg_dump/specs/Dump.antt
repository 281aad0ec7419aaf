-- What the bytes of a log are dumped as: the lines, without their LF.
use Rattle.std.specs.Prelude.{ℕ, List, [], ◌∷◌, ◌++◌, map, Option, Some, None}
use Rattle.rg_event.specs.Shapes.{Shape, schema_text}
use Rattle.rg_event.specs.declared.value.Value.{Value}
use Rattle.rg_chunk.specs.Extended.{all_extended}
use Rattle.rg_reservoir.specs.declared.walk.Stage.{Stage}
use Rattle.rg_dump.specs.Behind.{known_behind, stage_events, events_in}
use Rattle.rg_dump.specs.Rows.{row_line}
use Rattle.rg_dump.specs.Stages.{stages_of}

-- the text of a schema, if one is in force
abbrev pub head_lines : Option Shape → List (List ℕ)
head_lines None = []
head_lines (Some shape) = schema_text shape ∷ []

-- a row for each event of a frame, where these values come behind its own
abbrev pub stage_rows : List Value → Stage → List (List ℕ)
stage_rows behind s = map row_line (all_extended behind (stage_events s))

-- the text of the schema that is in force where the log of a file ends or is damaged
abbrev pub head_of : List ℕ → List (List ℕ)
head_of bytes = head_lines (known_behind None (stages_of bytes).stages)

-- a row for each event of the log of a file up to there, with all its values
abbrev pub rows_of : List ℕ → List (List ℕ)
rows_of bytes = map row_line (events_in (stages_of bytes).stages)

-- the lines of a file up to where its log ends or is damaged
abbrev pub dump_text : List ℕ → List (List ℕ)
dump_text bytes = head_of bytes ++ rows_of bytes

-- the first place where the log is damaged: an open gate, and behind it no whole frame of what its position asks for
abbrev pub damage_of : List ℕ → Option ℕ
damage_of bytes = (stages_of bytes).damage
