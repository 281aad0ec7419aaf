use Rattle.std.proofs.Common.{◌≡◌, drop}
use Rattle.rg_row.specs.Plain.{plain_values}
use Rattle.rg_row.proofs.OnePass.{in_front}
use Rattle.rg_row.proofs.plain.read_plain_values.Given as goal

abbrev pub invariant-loop-field : goal.invariant-loop-field
invariant-loop-field l = plain_values l.fields l.initial.rest ≡ in_front l.values (plain_values (drop l.field-index l.fields) l.rest)
