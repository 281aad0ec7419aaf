-- All rows, behind their number.
use Rattle.std.specs.Prelude.{◌≡◌, ℕ, ◌<◌, ◌^◌, List, ◌++◌, length}
use Rattle.std.specs.Int.{w64, to_be_bytes}
use Rattle.rg_state.specs.Rows.{Entry, Cells, Writes, entries_bytes}

-- rows behind their number, in 8 bytes
abbrev pub counted_bytes : List Entry → List ℕ
counted_bytes entries = to_be_bytes w64 (length entries) ++ entries_bytes entries

-- all rows are written at the end, in their order, behind their number in 8 bytes
pub record WritesCounted (cells : Cells) (old new : List ℕ) : Type 0 where
  pub written : List ℕ
  pub rows : Writes cells written
  pub few : length rows.0 < 2 ^ 64
  pub added : new ≡ old ++ (to_be_bytes w64 (length rows.0) ++ written)
