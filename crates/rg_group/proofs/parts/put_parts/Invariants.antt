use Rattle.std.proofs.Common.{◌≡◌, take}
use Rattle.rg_metric.specs.Replies.{key_of as key_values}
use Rattle.rg_group.specs.Keys.{key_bytes, AreStorable}
use Rattle.rg_group.proofs.parts.put_parts.Given as goal

abbrev pub invariant-loop-field : goal.invariant-loop-field
invariant-loop-field l = record { written : l.bytes.items ≡ key_bytes (key_values (take l.field-index l.fields) l.event); storable : AreStorable (key_values (take l.field-index l.fields) l.event) }
