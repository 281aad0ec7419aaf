-- A row's node, looked up among the aggregators of a plan.
use Rattle.std.proofs.Common.{◌≡◌, ℕ, ◌<◌, ◌+◌, List, [], ◌∷◌, ◌++◌, length, take, get_or, Option, Some, None, refl, ap, sym, subst, ◌∙◌, arith}
use Rattle.std.proofs.lemmas.List.{get_or-map, length-map, map-append, take_more}
use Rattle.std.proofs.lemmas.List.Elements.{All-push}
use Rattle.std.specs.Prelude.{slice_get, option_and_then, option_map}
use Rattle.std.proofs.lemmas.Option.{slice_get_within}
use Rattle.rg_event.specs.declared.schema.Field.{Field}
use Rattle.rg_metric.specs.declared.query.Agg.{Agg}
use Rattle.rg_metric.specs.declared.query.Window.{Window}
use Rattle.rg_plan.specs.Named.{Node, under_agg, under_group, under_filter}
use Rattle.rg_plan.specs.Nodes.{Filtered}
use Rattle.rg_plan.specs.Plans.{Tasks}
use Rattle.rg_plan.specs.Whole.{IsWhole}
use Rattle.rg_plan.specs.declared.node.AggNode.{AggNode}
use Rattle.rg_plan.specs.declared.node.GroupNode.{GroupNode}
use Rattle.rg_state.specs.Rows.{Entry}
use Rattle.rg_state.specs.States.{IsFor}
use Rattle.rg_checkpoint.specs.declared.base.Row.{Row}
use Rattle.rg_checkpoint.specs.Entries.{entry_of, entries_of}
use Rattle.rg_restore.specs.Fit.{kind_at, IsRowOf, IsRowUnder, AreRowsOf}

module _ (plan : Tasks) (agg : AggNode) (node : Node) where
  by_window : (group : GroupNode) (filter : Filtered) (window : Option Window) → option_map (λ window. record { window = window; condition = filter.condition; columns = group.columns; agg = agg.agg }) window ≡ Some node → node.agg ≡ agg.agg
  by_window group filter None is = cc
  by_window group filter (Some window) is = let e : record { window = window; condition = filter.condition; columns = group.columns; agg = agg.agg } ≡ node = cc in sym (ap (λ (n : Node). n.agg) e)

  by_filter : (group : GroupNode) (filter : Option Filtered) → option_and_then (under_filter plan group agg.agg) filter ≡ Some node → node.agg ≡ agg.agg
  by_filter group None is = cc
  by_filter group (Some filter) is = by_window group filter (slice_get plan.windows filter.window) is

  by_group : (group : Option GroupNode) → option_and_then (under_group plan agg.agg) group ≡ Some node → node.agg ≡ agg.agg
  by_group None is = cc
  by_group (Some group) is = by_filter group (slice_get plan.filters group.filter) is

-- a node's aggregator is the one of its number
agg_of : (plan : Tasks) (found : Option AggNode) (node : Node) → option_and_then (under_agg plan) found ≡ Some node → (agg : AggNode) × (found ≡ Some agg) × (node.agg ≡ agg.agg)
agg_of plan None node is = cc
agg_of plan (Some agg) node is = (agg, refl, by_group plan agg node (slice_get plan.groups agg.group) is)

pub under_of : (fields : List Field) (plan : Tasks) (entry : Entry) → IsRowOf fields plan entry → IsRowUnder fields (slice_get plan.aggs entry.node) entry
under_of fields plan entry is =
    let k = agg_of plan (slice_get plan.aggs entry.node) is.node is.there in
    subst (λ found. IsRowUnder fields found entry) (sym k.1) (subst (λ (a : Agg). IsFor a.func (kind_at fields a.field) entry.held) k.2 is.is)

of_by : (fields : List Field) (plan : Tasks) (entry : Entry) (found : Option AggNode) → IsWhole plan → slice_get plan.aggs entry.node ≡ found → IsRowUnder fields found entry → IsRowOf fields plan entry
of_by fields plan entry None whole there is = absurd is
of_by fields plan entry (Some agg) whole there is =
    let node = whole.nodes entry.node (slice_get_within plan.aggs entry.node agg there) in
    let same = by_group plan agg node.0 (slice_get plan.groups agg.group) (sym (ap (option_and_then (under_agg plan)) there) ∙ node.1) in
    record { node = node.0; there = node.1; is = subst (λ (a : Agg). IsFor a.func (kind_at fields a.field) entry.held) (sym same) is }

pub of_under : (fields : List Field) (plan : Tasks) (entry : Entry) → IsWhole plan → IsRowUnder fields (slice_get plan.aggs entry.node) entry → IsRowOf fields plan entry
of_under fields plan entry whole is = of_by fields plan entry (slice_get plan.aggs entry.node) whole refl is

-- Row by row

module _ (fields : List Field) (plan : Tasks) (rows : List Row) (i : ℕ) (row : Row) (within : i < length rows) (is : row ≡ get_or rows i row) where
  taken : entries_of (take (i + 1) rows) ≡ entries_of (take i rows) ++ entry_of row ∷ []
  taken = ap entries_of (take_more rows i row within) ∙ map-append entry_of (take i rows) (get_or rows i row ∷ []) ∙ ap (λ r. entries_of (take i rows) ++ entry_of r ∷ []) (sym is)

  pub one_of : AreRowsOf fields plan (entries_of rows) → IsRowUnder fields (slice_get plan.aggs row.node) (entry_of row)
  one_of all =
      let there : get_or (entries_of rows) i (entry_of row) ≡ entry_of row = get_or-map entry_of rows i row (entry_of row) within ∙ ap entry_of (sym is) in
      under_of fields plan (entry_of row) (subst (IsRowOf fields plan) there (all i (entry_of row) (omega (arith, within, length-map rows entry_of))))

  pub more_of : IsWhole plan → AreRowsOf fields plan (entries_of (take i rows)) → IsRowUnder fields (slice_get plan.aggs row.node) (entry_of row) → AreRowsOf fields plan (entries_of (take (i + 1) rows))
  more_of whole all under =
      subst (AreRowsOf fields plan) (sym taken)
      (All-push (IsRowOf fields plan) (entries_of (take i rows)) (entry_of row) all (of_under fields plan (entry_of row) whole under))
