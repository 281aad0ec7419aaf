use Rattle.std.proofs.Common.{◌≡◌, drop}
use Rattle.rg_event.specs.Reading.{names_differ}
use Rattle.rg_event.proofs.schema.parse.names_differ.Given as goal

abbrev pub invariant-loop-i : goal.invariant-loop-i
invariant-loop-i l = names_differ (drop l.i l.fields) ≡ names_differ l.fields
