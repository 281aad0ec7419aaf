use Rattle.std.proofs.Common.{ap, sym, ◌∙◌, ◌++◌}
use Rattle.rg_engine.proofs.Branches.{path_more}
use Rattle.rg_engine.proofs.tree.nodes_of.Goals as goal

pub queries-preserved : goal.queries-preserved
queries-preserved c = record {
  so_far = c.in_ok-extend_from_slice-in-Some.ensures.items ∙ ap (λ ns. ns ++ c.in-Some.path.now) c.queries.invariant.so_far ∙ sym (path_more c.args.plan.now.paths c.queries.query c.in-Some.path.now (sym c.in-Some.ensures));
}
