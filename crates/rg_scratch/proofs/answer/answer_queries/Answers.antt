use Rattle.std.proofs.Common.{rules}
use Rattle.rg_scratch.proofs.Answered.{with_path, no_path}
use Rattle.rg_scratch.proofs.answer.answer_queries.Goals as goal

pub queries-preserved : goal.queries-preserved
queries-preserved c exact =
    with_path c.args.plan.now c.args.seen.now c.args.answered.now c.queries.answers c.queries.query (c.queries.invariant exact) c.in-Some.nodes.now _ (search (rules, c.nodes.ensures)) (c.in_ok-push_answers-in-Some.ensures exact)

pub returns-in-None : goal.returns-in-None
returns-in-None c exact = no_path c.args.plan.now c.args.seen.now c.args.answered.now c.queries.answers c.queries.query (c.queries.invariant exact) (search (rules, c.nodes.ensures))
