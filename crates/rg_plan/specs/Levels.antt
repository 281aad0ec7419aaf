-- The nodes of some queries, as they are numbered.
use Rattle.std.specs.Prelude.{◌≡◌, List, map}
use Rattle.rg_metric.specs.Queries.{Asked}
use Rattle.rg_plan.specs.declared.level.Levels.{Levels}
use Rattle.rg_plan.specs.Nodes.{filtered}
use Rattle.rg_plan.specs.Plans.{windows_of, filters_of, groups_of, aggs_of, paths_of}

pub record IsNumbering (queries : List Asked) (levels : Levels) : Type 0 where
  pub windows : levels.windows.keys ≡ windows_of queries
  pub filters : map filtered levels.filters.keys ≡ filters_of queries
  pub groups : levels.groups.keys ≡ groups_of queries
  pub aggs : levels.aggs.keys ≡ aggs_of queries
  pub paths : levels.paths.items ≡ paths_of queries
