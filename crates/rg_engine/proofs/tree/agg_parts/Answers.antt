use Rattle.std.proofs.Common.{refl, ap, ◌∙◌}
use Rattle.rg_engine.specs.Parts.{agg_nodes}
use Rattle.rg_engine.proofs.Branches.{agg_more}
use Rattle.rg_engine.proofs.tree.agg_parts.Goals as goal

pub aggs-preserved : goal.aggs-preserved
aggs-preserved c = record {
  made = λ window condition columns n.
      ap (agg_nodes window condition columns n) c.in_ok-push.ensures.items
      ∙ agg_more window condition columns n c.args.group c.aggs.parts.items c.args.aggs.now c.aggs.agg _ _ c.aggs-test.true (c.aggs.invariant.made window condition columns n) refl refl c.if-node-group.false;
}
