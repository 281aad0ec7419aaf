use Rattle.std.proofs.Common.{◌≡◌, ◌≤◌, map, drop}
use Rattle.rg_metric.specs.Queries.{asked}
use Rattle.rg_plan.specs.Plans.{excess, excess_from}
use Rattle.rg_plan.proofs.size.first_too_many.Given as goal

abbrev pub invariant-loop-query : goal.invariant-loop-query
invariant-loop-query l = record {
  counted : l.index ≡ l.query-index;
  small : l.index ≤ 64;
  rest : excess (map asked l.queries) ≡ excess_from l.index (map asked (drop l.query-index l.queries));
}
