use Rattle.std.proofs.Common.{◌≡◌, ◌++◌}
use Rattle.rg_state.specs.Keeping.{TableKept}
use Rattle.rg_state.specs.Rows.{Lists}
use Rattle.rg_checkpoint.specs.Entries.{entries_of}
use Rattle.rg_restore.proofs.rows.move_rows.Given as goal

abbrev pub invariant-rows : goal.invariant-rows
invariant-rows g l =
    (goal.iterator-rows g).can_next l.row-iterator
    × (goal.iterator-rows g).is_finite l.row-iterator
    × (g.T.Table.tells l.fn.table → Lists (g.T.Table.cell l.table) (entries_of l.yielded))
    × TableKept g.T.Table.tells g.T.Table.faults l.fn.table l.table
    × (l.fn.rows.items ≡ l.yielded ++ l.row-iterator.rest.items)
