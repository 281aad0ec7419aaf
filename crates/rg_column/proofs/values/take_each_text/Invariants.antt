use Rattle.std.proofs.Common.{◌≡◌, ◌-◌, ◌++◌, [], length, map, take}
use Rattle.std.specs.List.{All}
use Rattle.rg_bytes.specs.Reading.{list_bytes, more_at}
use Rattle.rg_event.specs.Codec.{IsValueOf}
use Rattle.rg_event.specs.declared.value.Kind.TheVariants.{Text}
use Rattle.rg_column.specs.Values.{text_in, text_length, next_text_at}
use Rattle.rg_column.proofs.values.take_each_text.Given as goal

abbrev pub invariant-loop-length : goal.invariant-loop-length
invariant-loop-length l = record {
  counted : length l.values.items ≡ l.length-index;
  to_come : more_at (next_text_at l.index l.lengths) [] (length l.lengths) l.fn.from ≡ more_at (next_text_at l.index l.lengths) l.values.items (length l.lengths - l.length-index) l.from;
  taken : l.fn.from ≡ list_bytes text_in l.values.items ++ l.from;
  lengths : map text_length l.values.items ≡ take l.length-index l.lengths;
  legal : All (IsValueOf Text) l.values.items;
}
