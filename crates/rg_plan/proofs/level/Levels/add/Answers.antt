use Rattle.std.proofs.Common.{map}
use Rattle.rg_metric.specs.Queries.{asked}
use Rattle.rg_plan.specs.declared.node.GroupNode.{GroupNode}
use Rattle.rg_plan.specs.Nodes.{Filtered, filtered}
use Rattle.rg_plan.proofs.Adding.{all_added}
use Rattle.rg_plan.proofs.level.Levels.add.Goals as goal

pub returns : goal.returns
returns c = λ queries h.
    let q = asked c.args.query.now in
    let old = c.args.self.now in
    let filter : Filtered = filtered (record { window = c.in_ok-window.window; condition = c.in_ok-condition.condition }) in
    let group : GroupNode = record { filter = c.in_ok-filter.filter; columns = c.in_ok-columns.columns } in
    let added = all_added queries q
    old.windows.keys c.number_of.new.members.keys h.windows c.in_ok-window.ensures.members
    (map filtered old.filters.keys) (map filtered c.filter_number.new.filters.keys) filter h.filters c.in_ok-filter.ensures.filters
    (λ i. record { window = c.in_ok-window.ensures.number i; condition = c.in_ok-condition.ensures i })
    old.groups.keys c.number_of-2.new.members.keys group h.groups c.in_ok-group.ensures.members
    (λ i. record { filter = c.in_ok-filter.ensures.number i; columns = c.in_ok-columns.ensures i })
    c.as_slice.result.now c.as_slice.ensures old.aggs.keys c.path_of.new.nodes.keys c.in_ok-group.group c.in_ok-group.ensures.number h.aggs c.in_ok-path.ensures.nodes
    old.paths.items c.push.new.self.items c.in_ok-path.path h.paths c.in_ok-path.ensures.path c.in_ok-push.ensures.items in
    record { windows = added.0; filters = added.1; groups = added.2; aggs = added.3; paths = added.4 }
