use Rattle.std.proofs.Common.{◌≡◌, ◌+◌, drop}
use Rattle.rg_state.specs.Sheets.{sheets_rows}
use Rattle.rg_state.proofs.sheets.count_rows.Given as goal

abbrev pub invariant-loop-sheet : goal.invariant-loop-sheet
invariant-loop-sheet l = record { to_come : l.count + sheets_rows (drop l.sheet-index l.sheets) ≡ sheets_rows l.sheets }
