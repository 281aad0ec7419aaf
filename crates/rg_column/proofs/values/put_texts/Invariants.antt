use Rattle.std.proofs.Common.{◌≡◌, ◌++◌, map, drop}
use Rattle.rg_bytes.specs.Keeps.{Keeps}
use Rattle.rg_bytes.specs.Reading.{list_bytes}
use Rattle.rg_column.specs.Numbers.{value_of}
use Rattle.rg_column.specs.Values.{text_in}
use Rattle.rg_column.proofs.values.put_texts.Given as goal

abbrev pub invariant-loop-event : goal.invariant-loop-event
invariant-loop-event l = record {
  to_come : l.out.items ++ list_bytes text_in (map (value_of l.index) (drop l.event-index l.events)) ≡ l.fn.out.items ++ list_bytes text_in (map (value_of l.index) l.events);
  keeps : Keeps l.fn.out.items l.out.items;
}
