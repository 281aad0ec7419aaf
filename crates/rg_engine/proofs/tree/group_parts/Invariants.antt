use Rattle.std.proofs.Common.{◌≡◌, ℕ, Option, take}
use Rattle.std.specs.Prelude.{slice_get}
use Rattle.rg_metric.specs.declared.query.Window.{Window}
use Rattle.rg_metric.specs.Conditions.{Test}
use Rattle.rg_plan.specs.declared.node.AggNode.{AggNode}
use Rattle.rg_engine.specs.Parts.{group_nodes, made_of, group_if}
use Rattle.rg_engine.proofs.tree.group_parts.Given as goal

abbrev pub invariant-groups : goal.invariant-groups
invariant-groups l = record {
  made : (window : Window) (condition : Option Test) (n : ℕ) →
      group_nodes window condition n l.parts.items ≡ made_of (λ (agg : AggNode). made_of (group_if window condition l.filter agg.agg) (slice_get (take l.group l.groups) agg.group)) (slice_get l.aggs n);
}
