use Rattle.std.proofs.Common.{drop}
use Rattle.rg_event.specs.Codec.{AreValuesOf}
use Rattle.rg_chunk.proofs.legal.are_values_of.Given as goal

abbrev pub invariant-loop-i : goal.invariant-loop-i
invariant-loop-i l = AreValuesOf (drop l.i l.fields) (drop l.i l.values) → AreValuesOf l.fields l.values
