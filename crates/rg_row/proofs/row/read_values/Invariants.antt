use Rattle.std.proofs.Common.{◌≡◌, ◌+◌, drop}
use Rattle.rg_row.specs.Rows.{values_of}
use Rattle.rg_row.specs.Texts.{left}
use Rattle.rg_row.proofs.Values.{ahead}
use Rattle.rg_row.proofs.row.read_values.Given as goal

abbrev pub invariant-loop-field : goal.invariant-loop-field
invariant-loop-field l = record {
  column : l.column ≡ l.field-index;
  values : values_of 1 l.fields (left l.initial.texts) ≡ ahead l.values (values_of (l.field-index + 1) (drop l.field-index l.fields) (left l.texts));
}
