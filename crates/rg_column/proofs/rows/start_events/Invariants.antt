use Rattle.std.proofs.Common.{◌≡◌, take}
use Rattle.rg_column.specs.Columns.{started}
use Rattle.rg_column.proofs.rows.start_events.Given as goal

abbrev pub invariant-loop-i : goal.invariant-loop-i
invariant-loop-i l = l.events.items ≡ started (take l.i l.offsets) (take l.i l.times)
