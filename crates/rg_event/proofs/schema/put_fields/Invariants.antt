use Rattle.std.proofs.Common.{◌≡◌, ◌++◌, take, drop, length}
use Rattle.rg_event.specs.Shapes.{fields_text}
use Rattle.rg_event.proofs.schema.put_fields.Given as goal

abbrev pub invariant-loop-field : goal.invariant-loop-field
invariant-loop-field l = record {
  so_far : l.out.items ++ fields_text (drop l.field-index l.fields) ≡ l.initial.out.items ++ fields_text l.fields;
  begun : take (length l.initial.out.items) l.out.items ≡ l.initial.out.items;
}
