use Rattle.std.proofs.Common.{◌≡◌, ◌≤◌, ◌+◌, length, take}
use Rattle.std.specs.Prelude.{fold}
use Rattle.rg_plan.specs.Nodes.{with_use, same_agg}
use Rattle.rg_plan.specs.Plans.{aggs_under, path_among}
use Rattle.rg_plan.proofs.level.path_of.Given as goal

abbrev pub invariant-loop-agg : goal.invariant-loop-agg
invariant-loop-agg l = record {
  few : length l.nodes.keys ≤ length l.fn.nodes.keys + l.agg-index;
  nodes : l.nodes.keys ≡ fold (with_use same_agg) l.fn.nodes.keys (aggs_under l.group (take l.agg-index l.aggs));
  path : l.path ≡ path_among l.nodes.keys (aggs_under l.group (take l.agg-index l.aggs));
}
