use Rattle.std.proofs.Common.{◌≡◌, ◌-◌, ◌++◌, [], length}
use Rattle.rg_bytes.specs.Reading.{list_bytes, more_at}
use Rattle.rg_column.specs.Widths.{difference_at, difference_bytes}
use Rattle.rg_column.proofs.numbers.take_differences.Given as goal

abbrev pub invariant-loop-done : goal.invariant-loop-done
invariant-loop-done l = record {
  counted : length l.differences.items ≡ l.done;
  to_come : more_at (λ _. difference_at l.width) [] l.count l.fn.from ≡ more_at (λ _. difference_at l.width) l.differences.items (l.count - l.done) l.from;
  taken : l.fn.from ≡ list_bytes (difference_bytes l.width) l.differences.items ++ l.from;
}
