use Rattle.std.proofs.Common.{◌≡◌, ◌++◌, map, drop}
use Rattle.rg_agg.specs.Held.{tagged_list}
use Rattle.rg_agg.specs.Numbers.{value_of}
use Rattle.rg_bytes.specs.Keeps.{Keeps}
use Rattle.rg_agg.proofs.first.put_each.Given as goal

abbrev pub invariant-loop-place : goal.invariant-loop-place
invariant-loop-place l = record {
  to_come : l.out.items ++ tagged_list (map value_of (drop l.place l.numbers.items)) ≡ l.fn.out.items ++ tagged_list (map value_of l.numbers.items);
  keeps : Keeps l.fn.out.items l.out.items;
}
