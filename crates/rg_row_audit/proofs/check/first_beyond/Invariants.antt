use Rattle.std.proofs.Common.{◌≡◌, ◌≤◌, ℕ, List, None, take}
use Rattle.rg_checkpoint.specs.Entries.{entries_of}
use Rattle.rg_row_audit.specs.Rows.{row_in}
use Rattle.rg_row_audit.proofs.check.first_beyond.Given as goal

abbrev pub invariant-rows : goal.invariant-rows
invariant-rows l = (m : ℕ) (key : List ℕ) → l.count ≤ m → row_in (entries_of (take l.row-index l.rows)) m key ≡ None
