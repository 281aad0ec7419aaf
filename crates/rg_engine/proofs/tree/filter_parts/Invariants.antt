use Rattle.std.proofs.Common.{◌≡◌, ℕ, Some, take, map}
use Rattle.std.specs.Prelude.{slice_get}
use Rattle.rg_plan.specs.Nodes.{Filtered, filtered}
use Rattle.rg_engine.specs.declared.part.FilterPart.{FilterPart}
use Rattle.rg_engine.specs.Parts.{nodes_numbered, made_of, node_in_agg}
use Rattle.rg_engine.proofs.tree.filter_parts.Given as goal

abbrev pub invariant-filters : goal.invariant-filters
invariant-filters l = record {
  made : (n : ℕ) → nodes_numbered n l.parts.items ≡ made_of (node_in_agg l.windows (take l.filter (map filtered l.filters)) l.groups) (slice_get l.aggs n);
  windows : map (λ (part : FilterPart). Some part.window) l.parts.items ≡ map (λ (filter : Filtered). slice_get l.windows filter.window) (take l.filter (map filtered l.filters));
}
