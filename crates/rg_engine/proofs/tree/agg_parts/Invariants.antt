use Rattle.std.proofs.Common.{◌≡◌, ℕ, List, Option, take}
use Rattle.std.specs.Prelude.{slice_get}
use Rattle.rg_metric.specs.declared.query.Window.{Window}
use Rattle.rg_metric.specs.Conditions.{Test}
use Rattle.rg_engine.specs.Parts.{agg_nodes, made_of, agg_if}
use Rattle.rg_engine.proofs.tree.agg_parts.Given as goal

abbrev pub invariant-aggs : goal.invariant-aggs
invariant-aggs l = record {
  made : (window : Window) (condition : Option Test) (columns : List ℕ) (n : ℕ) → agg_nodes window condition columns n l.parts.items ≡ made_of (agg_if window condition columns l.group) (slice_get (take l.agg l.aggs) n);
}
