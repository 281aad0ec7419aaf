-- The record that `csv` defines for a line.
use Rattle.std.specs.Prelude.{ℕ, List, [], Option, option_map}
use Rattle.csv.specs.Machine.{Read, next_record}
use Rattle.csv.specs.Reading.{default_config, strip_bom}
use Rattle.csv.specs.declared.parser.State.TheVariants as st

-- its fields, where the line is read from the start by the settings that `csv` has by default
abbrev pub csv_record : List ℕ → Option (List (List ℕ))
csv_record line = option_map (λ (read : Read). read.0) (next_record default_config st.StartRecord [] [] (strip_bom line))
