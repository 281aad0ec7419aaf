use Rattle.std.proofs.Common.{◌≡◌, ◌++◌, drop}
use Rattle.std.specs.Prelude.{flat_map}
use Rattle.rg_scratch.specs.Nodes.{AreExact, answers_of}
use Rattle.rg_scratch.proofs.answer.answer_queries.Given as goal

abbrev pub invariant-queries : goal.invariant-queries
invariant-queries l =
    AreExact l.plan l.seen l.answered →
    l.answers ++ flat_map (answers_of l.plan l.seen l.answered) (drop l.query l.plan.paths) ≡ flat_map (answers_of l.plan l.seen l.answered) l.plan.paths
