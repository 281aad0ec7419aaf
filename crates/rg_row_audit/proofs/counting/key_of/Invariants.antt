use Rattle.std.proofs.Common.{◌≡◌, take}
use Rattle.rg_metric.specs.Replies.{key_of as key_values}
use Rattle.rg_group.specs.Keys.{key_bytes}
use Rattle.rg_row_audit.proofs.counting.key_of.Given as goal

abbrev pub invariant-columns : goal.invariant-columns
invariant-columns l = l.bytes.items ≡ key_bytes (key_values (take l.column-index l.columns) l.event)
