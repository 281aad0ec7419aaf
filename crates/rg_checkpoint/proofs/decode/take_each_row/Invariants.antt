use Rattle.std.proofs.Common.{◌≡◌, ◌-◌, ◌++◌, [], length}
use Rattle.std.specs.List.{All}
use Rattle.rg_bytes.specs.Reading.{list_bytes, more_at}
use Rattle.rg_state.specs.Rows.{entry_bytes, AreRising}
use Rattle.rg_checkpoint.specs.Base.{IsEntry}
use Rattle.rg_checkpoint.specs.Entries.{entries_of}
use Rattle.rg_checkpoint.specs.Reading.{next_row_at}
use Rattle.rg_checkpoint.proofs.decode.take_each_row.Given as goal

abbrev pub invariant-loop-done : goal.invariant-loop-done
invariant-loop-done l = record {
  counted : length (entries_of l.rows.items) ≡ l.done;
  to_come : more_at next_row_at [] l.count l.fn.from ≡ more_at next_row_at (entries_of l.rows.items) (l.count - l.done) l.from;
  taken : l.fn.from ≡ list_bytes entry_bytes (entries_of l.rows.items) ++ l.from;
  legal : All IsEntry (entries_of l.rows.items);
  rising : AreRising (entries_of l.rows.items);
}
