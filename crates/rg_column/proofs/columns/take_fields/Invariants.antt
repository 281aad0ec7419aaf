use Rattle.std.proofs.Common.{◌≡◌, ◌++◌, length, map, take, drop}
use Rattle.std.specs.List.{All}
use Rattle.rg_event.specs.Codec.{IsEventOf}
use Rattle.rg_column.specs.Numbers.{number_of}
use Rattle.rg_column.specs.Columns.{fields_at, fields_bytes}
use Rattle.rg_column.specs.declared.series.Series.TheVariants.{Offset, Time}
use Rattle.rg_column.proofs.columns.take_fields.Given as goal

abbrev pub invariant-loop-field : goal.invariant-loop-field
invariant-loop-field l = record {
  counted : l.index ≡ l.field-index;
  many : length l.events.items ≡ l.count;
  to_come : fields_at l.fields 0 l.count l.fn.started.items l.fn.from ≡ fields_at (drop l.field-index l.fields) l.field-index l.count l.events.items l.from;
  taken : l.fn.from ≡ fields_bytes (take l.field-index l.fields) 0 l.events.items ++ l.from;
  legal : All (IsEventOf (take l.field-index l.fields)) l.events.items;
  offsets : map (number_of Offset) l.events.items ≡ map (number_of Offset) l.fn.started.items;
  times : map (number_of Time) l.events.items ≡ map (number_of Time) l.fn.started.items;
}
