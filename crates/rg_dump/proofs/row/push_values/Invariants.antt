use Rattle.std.proofs.Common.{◌≡◌, ◌++◌, [], map, take}
use Rattle.csv.specs.Records.{fields_of, partial_of}
use Rattle.rg_dump.specs.Rows.{value_text}
use Rattle.rg_dump.proofs.row.push_values.Given as goal

abbrev pub invariant-values : goal.invariant-values
invariant-values l = record {
  whole : partial_of l.fields ≡ [];
  fields : fields_of l.fields ≡ fields_of l.fn.fields ++ map value_text (take l.value-index l.values);
}
