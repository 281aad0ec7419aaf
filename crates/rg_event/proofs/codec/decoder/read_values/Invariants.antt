use Rattle.std.proofs.Common.{◌≡◌, ◌+◌, ◌++◌, take, drop}
use Rattle.rg_event.specs.Codec.{values_at, values_bytes, AreValuesOf}
use Rattle.rg_event.proofs.ColumnValues.{behind}
use Rattle.rg_event.proofs.codec.decoder.read_values.Given as goal

abbrev pub invariant-loop-field : goal.invariant-loop-field
invariant-loop-field l = record {
  counted : l.column ≡ l.field-index;
  to_come : values_at l.fields 1 l.fn.from ≡ behind l.values (values_at (drop l.field-index l.fields) (l.field-index + 1) l.from);
  taken : l.fn.from ≡ values_bytes l.values ++ l.from;
  legal : AreValuesOf (take l.field-index l.fields) l.values;
}
