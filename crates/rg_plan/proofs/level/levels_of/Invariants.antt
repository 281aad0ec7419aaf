use Rattle.std.proofs.Common.{map, take}
use Rattle.rg_metric.specs.Queries.{asked}
use Rattle.rg_plan.specs.Levels.{IsNumbering}
use Rattle.rg_plan.proofs.level.levels_of.Given as goal

abbrev pub invariant-loop-query : goal.invariant-loop-query
invariant-loop-query l = IsNumbering (map asked (take l.query-index l.queries)) l.levels
