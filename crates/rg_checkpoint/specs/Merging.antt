-- How rows that rise and changes that rise are merged, front to back.
use Rattle.std.specs.Prelude.{◌==◌, ◌&&◌, bytes_eq, Bool, true, false, List, [], ◌∷◌, ◌++◌, if◌then◌else◌, is_some, ◌||◌}
use Rattle.rg_state.specs.Changes.{RowChange}
use Rattle.rg_state.specs.Cells.{and_row}
use Rattle.rg_state.specs.Rows.{At, Entry}
use Rattle.rg_checkpoint.specs.Reading.{is_below}

-- they stand at one node and key
abbrev pub is_same : {X Y : Type 0} → At X → At Y → Bool
is_same a b = (a.node == b.node) && bytes_eq a.key b.key

-- the rows in front that come before the change
abbrev pub before : List Entry → RowChange → List Entry
before [] change = []
before (row ∷ rows) change = if is_below row change then row ∷ before rows change else []

-- and those behind them
abbrev pub behind : List Entry → RowChange → List Entry
behind [] change = []
behind (row ∷ rows) change = if is_below row change then behind rows change else row ∷ rows

-- the first row is the one that changed
abbrev pub begins_with : List Entry → RowChange → Bool
begins_with [] change = false
begins_with (row ∷ rows) change = is_same row change

-- the first row comes before the change
abbrev pub begins_below : List Entry → RowChange → Bool
begins_below [] change = false
begins_below (row ∷ rows) change = is_below row change

-- without the row that changed
abbrev pub without : List Entry → RowChange → List Entry
without [] change = []
without (row ∷ rows) change = if is_same row change then rows else row ∷ rows

-- the row as it is now, where it isn't gone
abbrev pub now_of : RowChange → List Entry
now_of change = and_row change.node change.key change.held []

-- each change behind the rows before it, in place of the row of its key
abbrev pub merged : List Entry → List RowChange → List Entry
merged rows [] = rows
merged rows (change ∷ changes) = before rows change ++ (now_of change ++ merged (without (behind rows change) change) changes)

-- each row that is gone is found so
abbrev pub all_found : List Entry → List RowChange → Bool
all_found rows [] = true
all_found rows (change ∷ changes) = (is_some change.held || begins_with (behind rows change) change) && all_found (without (behind rows change) change) changes
