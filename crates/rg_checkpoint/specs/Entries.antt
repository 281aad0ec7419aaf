-- Rows as a table has them.
use Rattle.std.specs.Prelude.{◌<◌, List, map, All}
use Rattle.rg_agg.specs.Standing.{size_in}
use Rattle.rg_state.specs.Rows.{Entry}
use Rattle.rg_state.specs.States.{held_of}
use Rattle.rg_checkpoint.specs.declared.base.Row.{Row}

-- a row as a table has it: its node, its key, and what its state keeps
abbrev pub entry_of : Row → Entry
entry_of row = record { node = row.node; key = row.key; held = held_of row.state }

-- all rows of a list so
abbrev pub entries_of : List Row → List Entry
entries_of rows = map entry_of rows

-- no row is empty
abbrev pub AreFilled : List Entry → Type 0
AreFilled entries = All (λ (entry : Entry). 0 < size_in entry.held) entries
