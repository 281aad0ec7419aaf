use Rattle.std.proofs.Common.{◌≡◌, ◌++◌, drop}
use Rattle.rg_bytes.specs.Keeps.{Keeps}
use Rattle.rg_state.specs.Sheets.{sheets_bytes}
use Rattle.rg_state.proofs.sheets.put_sheets.Given as goal

abbrev pub invariant-loop-sheet : goal.invariant-loop-sheet
invariant-loop-sheet l = record {
  to_come : l.out.items ++ sheets_bytes (drop l.sheet-index l.sheets) ≡ l.fn.out.items ++ sheets_bytes l.sheets;
  keeps : Keeps l.fn.out.items l.out.items;
}
