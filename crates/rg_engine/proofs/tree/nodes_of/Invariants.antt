use Rattle.std.proofs.Common.{◌≡◌, take, flat_map}
use Rattle.rg_engine.proofs.tree.nodes_of.Given as goal

abbrev pub invariant-queries : goal.invariant-queries
invariant-queries l = record { so_far : l.nodes.items ≡ flat_map (λ path. path) (take l.query l.plan.paths) }
