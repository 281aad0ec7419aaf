use Rattle.std.proofs.Common.{◌≡◌, ◌++◌, drop}
use Rattle.rg_scratch.specs.Nodes.{AreExact, answers_of}
use Rattle.rg_scratch.proofs.answer.push_answers.Given as goal

abbrev pub invariant-nodes : goal.invariant-nodes
invariant-nodes l =
    AreExact l.plan l.seen l.answered →
    l.answers ++ answers_of l.plan l.seen l.answered (drop l.node-index l.nodes) ≡ l.fn.answers ++ answers_of l.plan l.seen l.answered l.nodes
