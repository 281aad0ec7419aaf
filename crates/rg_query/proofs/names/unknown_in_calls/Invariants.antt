use Rattle.std.proofs.Common.{◌≡◌, drop}
use Rattle.rg_parse.specs.Views.{calls}
use Rattle.rg_query.specs.Resolving.{first_in, unknown_in_agg}
use Rattle.rg_query.proofs.names.unknown_in_calls.Given as goal

abbrev pub invariant-loop-call : goal.invariant-loop-call
invariant-loop-call l =
    first_in (unknown_in_agg l.schema) (calls l.text (drop l.call-index l.calls)) ≡ first_in (unknown_in_agg l.schema) (calls l.text l.calls)
