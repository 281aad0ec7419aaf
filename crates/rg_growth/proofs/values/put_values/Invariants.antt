use Rattle.std.proofs.Common.{◌≡◌, ◌++◌, drop}
use Rattle.rg_bytes.specs.Keeps.{Keeps}
use Rattle.rg_bytes.specs.Reading.{list_bytes}
use Rattle.rg_event.specs.Tagged.{tagged_bytes}
use Rattle.rg_growth.proofs.values.put_values.Given as goal

abbrev pub invariant-loop-value : goal.invariant-loop-value
invariant-loop-value l = record {
  to_come : l.out.items ++ list_bytes tagged_bytes (drop l.value-index l.values) ≡ l.fn.out.items ++ list_bytes tagged_bytes l.values;
  keeps : Keeps l.fn.out.items l.out.items;
}
