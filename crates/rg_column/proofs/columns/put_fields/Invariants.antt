use Rattle.std.proofs.Common.{◌≡◌, ◌++◌, drop}
use Rattle.rg_bytes.specs.Keeps.{Keeps}
use Rattle.rg_column.specs.Columns.{fields_bytes}
use Rattle.rg_column.proofs.columns.put_fields.Given as goal

abbrev pub invariant-loop-field : goal.invariant-loop-field
invariant-loop-field l = record {
  counted : l.index ≡ l.field-index;
  to_come : l.out.items ++ fields_bytes (drop l.field-index l.fields) l.field-index l.events ≡ l.fn.out.items ++ fields_bytes l.fields 0 l.events;
  keeps : Keeps l.fn.out.items l.out.items;
}
