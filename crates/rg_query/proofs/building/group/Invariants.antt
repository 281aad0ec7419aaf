use Rattle.std.proofs.Common.{◌≡◌, drop, None}
use Rattle.rg_parse.specs.Views.{names}
use Rattle.rg_query.specs.Resolving.{first_in, unknown_column, column_of}
use Rattle.rg_query.proofs.Lists.{SoFar}
use Rattle.rg_query.proofs.building.group.Given as goal

abbrev pub invariant-loop-name : goal.invariant-loop-name
invariant-loop-name l =
    first_in (unknown_column l.schema) (names l.text l.names) ≡ None →
    SoFar (unknown_column l.schema) (λ _. None) (column_of l.schema) (names l.text l.names) (names l.text (drop l.name-index l.names)) l.columns
