use Rattle.std.proofs.Common.{◌≡◌, ◌-◌}
use Rattle.rg_event.specs.Reading.{fields_at, behind}
use Rattle.rg_event.proofs.schema.parse.Cursor.fields.Given as goal

abbrev pub invariant-columns : goal.invariant-columns
invariant-columns l = fields_at 32 l.initial.self ≡ behind l.fields.items (fields_at (32 - l.counter) l.self)
