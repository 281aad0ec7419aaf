use Rattle.std.proofs.Common.{◌≡◌, ℕ, length}
use Rattle.rg_state.specs.Sheets.{blank, page_at}
use Rattle.rg_state.proofs.sheets.blank_sheets.Given as goal

abbrev pub invariant-loop : goal.invariant-loop
invariant-loop l = record {
  pages : (node : ℕ) → page_at l.sheets.items node ≡ blank;
  count : length l.sheets.items ≡ l.counter;
}
