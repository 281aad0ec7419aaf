use Rattle.std.proofs.Common.{◌≡◌, drop, None}
use Rattle.rg_parse.specs.Views.{calls}
use Rattle.rg_query.specs.Resolving.{first_in, unknown_in_agg, wrong_agg, agg_asked}
use Rattle.rg_query.proofs.Lists.{SoFar}
use Rattle.rg_query.proofs.building.aggs.Given as goal

abbrev pub invariant-loop-call : goal.invariant-loop-call
invariant-loop-call l =
    first_in (unknown_in_agg l.schema) (calls l.text l.calls) ≡ None →
    SoFar (unknown_in_agg l.schema) (wrong_agg l.schema) (agg_asked l.schema) (calls l.text l.calls) (calls l.text (drop l.call-index l.calls)) l.aggs
