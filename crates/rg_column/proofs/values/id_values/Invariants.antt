use Rattle.std.proofs.Common.{◌≡◌, map, take}
use Rattle.rg_event.specs.declared.value.Value.TheVariants.{Id}
use Rattle.rg_column.proofs.values.id_values.Given as goal

abbrev pub invariant-loop-number : goal.invariant-loop-number
invariant-loop-number l = l.values.items ≡ map Id (take l.number-index l.numbers)
