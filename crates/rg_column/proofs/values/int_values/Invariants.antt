use Rattle.std.proofs.Common.{◌≡◌, map, take}
use Rattle.rg_column.specs.Values.{int_value}
use Rattle.rg_column.proofs.values.int_values.Given as goal

abbrev pub invariant-loop-place : goal.invariant-loop-place
invariant-loop-place l = l.values.items ≡ map int_value (take l.place-index l.places)
