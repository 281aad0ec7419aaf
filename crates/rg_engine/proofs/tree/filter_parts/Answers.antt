use Rattle.std.proofs.Common.{ap, sym, subst, ◌∙◌, map, length, ◌<◌, arith}
use Rattle.std.proofs.lemmas.List.{get_or-map, length-map}
use Rattle.rg_plan.specs.Nodes.{Filtered, filtered}
use Rattle.rg_engine.specs.declared.part.FilterPart.{FilterPart}
use Rattle.std.specs.Prelude.{slice_get, Some}
use Rattle.rg_engine.specs.Parts.{nodes_numbered}
use Rattle.rg_engine.proofs.Branches.{filter_more, window_more}
use Rattle.rg_engine.proofs.tree.filter_parts.Goals as goal

pub filter_part-requires-clause-window : goal.filter_part-requires-clause-window
filter_part-requires-clause-window c =
    let node = c.index-filters-filter.result in
    let within : c.filters.filter < length (map filtered c.args.filters.now) = omega (arith, c.filters-test.true, length-map c.args.filters.now filtered) in
    let here = get_or-map filtered c.args.filters.now c.filters.filter node (filtered node) c.filters-test.true ∙ ap filtered (sym c.index-filters-filter.is) in
    subst (λ (f : Filtered). f.window < length c.args.windows.now) here (c.requires.windows c.filters.filter (filtered node) within)

pub filters-preserved : goal.filters-preserved
filters-preserved c =
    let node = c.index-filters-filter.result in
    let within : c.filters.filter < length (map filtered c.args.filters.now) = omega (arith, c.filters-test.true, length-map c.args.filters.now filtered) in
    let here = get_or-map filtered c.args.filters.now c.filters.filter node (filtered node) c.filters-test.true ∙ ap filtered (sym c.index-filters-filter.is) in
    let made = c.in-Ok.ensures in
    let seen = ap (λ (f : Filtered). slice_get c.args.windows.now f.window) here ∙ made.window in
    record {
      made = λ n.
          ap (nodes_numbered n) c.in_ok-push-in-Ok.ensures.items
          ∙ filter_more c.args.windows.now n c.filters.parts.items (map filtered c.args.filters.now) c.args.groups.now c.filters.filter (filtered node) c.args.aggs.now c.in-Ok.part within (c.filters.invariant.made n)
          seen (made.condition ∙ ap (λ (f : Filtered). f.condition) (sym here)) (made.nodes c.in-Ok.part.window c.in-Ok.part.filter n);
      windows =
          ap (map (λ (p : FilterPart). Some p.window)) c.in_ok-push-in-Ok.ensures.items
          ∙ window_more c.args.windows.now c.filters.parts.items (map filtered c.args.filters.now) c.filters.filter (filtered node) c.in-Ok.part within c.filters.invariant.windows seen;
    }
