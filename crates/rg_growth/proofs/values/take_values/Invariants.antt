use Rattle.std.proofs.Common.{◌≡◌, ◌++◌, take, drop}
use Rattle.rg_bytes.specs.Reading.{list_bytes}
use Rattle.rg_event.specs.Codec.{AreValuesOf}
use Rattle.rg_event.specs.Tagged.{tagged_bytes}
use Rattle.rg_growth.specs.Payloads.{values_at}
use Rattle.rg_growth.proofs.Read.{behind}
use Rattle.rg_growth.proofs.values.take_values.Given as goal

abbrev pub invariant-loop-field : goal.invariant-loop-field
invariant-loop-field l = record {
  to_come : values_at l.fields l.fn.from ≡ behind l.values (values_at (drop l.field-index l.fields) l.from);
  taken : l.fn.from ≡ list_bytes tagged_bytes l.values ++ l.from;
  of : AreValuesOf (take l.field-index l.fields) l.values;
}
