use Rattle.std.proofs.Common.{ap, sym, ◌∙◌}
use Rattle.rg_plan.specs.declared.node.GroupNode.{GroupNode}
use Rattle.rg_engine.specs.Parts.{group_nodes}
use Rattle.rg_engine.proofs.Branches.{group_more}
use Rattle.rg_engine.proofs.tree.group_parts.Goals as goal

pub groups-preserved : goal.groups-preserved
groups-preserved c =
    let node = c.index-groups-group.result in
    record {
      made = λ window condition n.
          ap (group_nodes window condition n) c.in_ok-push.ensures.items
          ∙ group_more window condition n c.args.filter c.groups.parts.items c.args.groups.now c.groups.group node c.args.aggs.now _ c.groups-test.true (c.groups.invariant.made window condition n)
          (c.in_ok-columns.ensures ∙ ap (λ (g : GroupNode). g.columns) c.index-groups-group.is) (ap (λ (g : GroupNode). g.filter) (sym c.index-groups-group.is) ∙ c.if-node-filter.false)
          (c.in_ok-under.ensures window condition c.in_ok-columns.columns n);
    }
