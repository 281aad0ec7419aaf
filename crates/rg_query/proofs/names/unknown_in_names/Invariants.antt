use Rattle.std.proofs.Common.{◌≡◌, drop}
use Rattle.rg_parse.specs.Views.{names}
use Rattle.rg_query.specs.Resolving.{first_in, unknown_column}
use Rattle.rg_query.proofs.names.unknown_in_names.Given as goal

abbrev pub invariant-loop-name : goal.invariant-loop-name
invariant-loop-name l =
    first_in (unknown_column l.schema) (names l.text (drop l.name-index l.names)) ≡ first_in (unknown_column l.schema) (names l.text l.names)
