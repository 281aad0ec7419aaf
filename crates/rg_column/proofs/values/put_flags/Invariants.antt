use Rattle.std.proofs.Common.{◌≡◌, ◌++◌, map, drop}
use Rattle.rg_bytes.specs.Keeps.{Keeps}
use Rattle.rg_column.specs.Numbers.{value_of}
use Rattle.rg_column.specs.Values.{flag_byte}
use Rattle.rg_column.proofs.values.put_flags.Given as goal

abbrev pub invariant-loop-event : goal.invariant-loop-event
invariant-loop-event l = record {
  to_come : l.out.items ++ map flag_byte (map (value_of l.index) (drop l.event-index l.events)) ≡ l.fn.out.items ++ map flag_byte (map (value_of l.index) l.events);
  keeps : Keeps l.fn.out.items l.out.items;
}
