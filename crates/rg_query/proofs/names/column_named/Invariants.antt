use Rattle.std.proofs.Common.{◌≡◌, ◌+◌, drop}
use Rattle.rg_query.specs.Resolving.{column_from}
use Rattle.rg_query.proofs.names.column_named.Given as goal

abbrev pub invariant-loop-field : goal.invariant-loop-field
invariant-loop-field l = record {
  counted : l.number ≡ l.field-index;
  rest : column_from (l.field-index + 1) (drop l.field-index l.fields) l.name ≡ column_from 1 l.fields l.name;
}
