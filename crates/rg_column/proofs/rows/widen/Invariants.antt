use Rattle.std.proofs.Common.{◌≡◌, ◌++◌, length}
use Rattle.rg_column.specs.Columns.{widened}
use Rattle.rg_column.proofs.rows.widen.Given as goal

abbrev pub invariant-loop-value : goal.invariant-loop-value
invariant-loop-value l = record {
  can_next : (goal.iterator-loop-value).can_next l.value-iterator;
  is_finite : (goal.iterator-loop-value).is_finite l.value-iterator;
  counted : l.index ≡ length l.yielded;
  all : l.fn.values.items ≡ l.yielded ++ l.value-iterator.rest.items;
  here : l.events.items ≡ widened l.fn.events.items l.yielded;
}
