use Rattle.std.proofs.Common.{◌≡◌, ◌≤◌, map, min, max, drop}
use Rattle.rg_column.specs.Numbers.{least, greatest, number_of}
use Rattle.rg_column.proofs.numbers.range_of.Given as goal

abbrev pub invariant-loop-event : goal.invariant-loop-event
invariant-loop-event l = record {
  least_to_come : min l.least (least (map (number_of l.series) (drop l.event-index l.events))) ≡ least (map (number_of l.series) l.events);
  fits : l.least ≤ 18446744073709551615;
  greatest_to_come : max l.greatest (greatest (map (number_of l.series) (drop l.event-index l.events))) ≡ greatest (map (number_of l.series) l.events);
}
