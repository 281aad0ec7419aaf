use Rattle.std.proofs.Common.{◌≡◌, None, List, map, take, subst, sym, ◌++◌, ◌∷◌, []}
use Rattle.std.proofs.lemmas.List.{take_all}
use Rattle.rg_metric.specs.declared.query.Query.{Query}
use Rattle.rg_metric.specs.Queries.{asked, Asked}
use Rattle.rg_plan.specs.Plans.{excess}
use Rattle.rg_plan.specs.Levels.{IsNumbering}
use Rattle.rg_plan.proofs.Steps.{once_more}
use Rattle.rg_plan.proofs.Sizes.{few_so_far, windows_room, filters_room, groups_room, aggs_room}
use Rattle.rg_plan.proofs.level.levels_of.Goals as goal

pub add-requires : goal.add-requires
add-requires c =
    let queries = c.args.queries.now in
    let q = c.query-item.result in
    let before = map asked (take c.loop-query.query-index queries) in
    let few : excess (before ++ asked q ∷ []) ≡ None = few_so_far queries c.loop-query.query-index q c.loop-query-test.true c.query-item.is c.requires in
    let levels = c.loop-query.levels in
    let is = c.loop-query.invariant in
    record {
      windows = windows_room before (asked q) few levels.windows.keys is.windows;
      filters = filters_room before (asked q) few levels.filters.keys is.filters;
      groups = groups_room before (asked q) few levels.groups.keys is.groups;
      aggs = aggs_room before (asked q) few levels.aggs.keys is.aggs;
    }

pub loop-query-preserved : goal.loop-query-preserved
loop-query-preserved c =
    let queries = c.args.queries.now in
    let q = c.query-item.result in
    let before = map asked (take c.loop-query.query-index queries) in
    let P : List Asked → Type 0 = λ qs. IsNumbering qs c.add.new.self in
    subst P (sym (once_more asked queries c.loop-query.query-index q c.loop-query-test.true c.query-item.is)) (c.in_ok-add.ensures before c.loop-query.invariant)

pub returns : goal.returns
returns c =
    let P : List Query → Type 0 = λ qs. IsNumbering (map asked qs) c.loop-query.levels in
    subst P (take_all c.loop-query.query-index c.args.queries.now c.loop-query-test.false) c.loop-query.invariant
