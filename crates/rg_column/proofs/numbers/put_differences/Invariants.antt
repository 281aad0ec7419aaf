use Rattle.std.proofs.Common.{◌≡◌, ◌++◌, map, drop}
use Rattle.rg_bytes.specs.Keeps.{Keeps}
use Rattle.rg_column.specs.Numbers.{number_of, differences_bytes}
use Rattle.rg_column.proofs.numbers.put_differences.Given as goal

abbrev pub invariant-loop-event : goal.invariant-loop-event
invariant-loop-event l = record {
  to_come : l.out.items ++ differences_bytes l.width l.base (map (number_of l.series) (drop l.event-index l.events)) ≡ l.fn.out.items ++ differences_bytes l.width l.base (map (number_of l.series) l.events);
  keeps : Keeps l.fn.out.items l.out.items;
}
