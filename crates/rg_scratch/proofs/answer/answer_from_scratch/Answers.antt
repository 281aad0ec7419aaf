use Rattle.std.proofs.Common.{◌≡◌, ◌∙◌, ◌+◌, take, arith}
use Rattle.std.specs.Prelude.{flat_map}
use Rattle.std.proofs.lemmas.List.{length-take-le}
use Rattle.std.proofs.lemmas.List.Elements.{All-take}
use Rattle.std.proofs.lemmas.Result.{IfOk-weaker}
use Rattle.rg_event.specs.Codec.{IsEventOf}
use Rattle.rg_metric.specs.Replies.{answers_to}
use Rattle.rg_scratch.specs.Nodes.{answers_of}
use Rattle.rg_scratch.proofs.Answered.{all_answers}
use Rattle.rg_scratch.proofs.Exact.{all_exact}
use Rattle.rg_scratch.proofs.answer.answer_from_scratch.Goals as goal

pub returns : goal.returns
returns c shape queries e is legal are there =
    let exact = all_exact shape queries c.args.plan.now (take (c.args.k + 1) c.args.events.now) c.index-events-k.result is legal
    (All-take (IsEventOf shape.fields) (c.args.k + 1) c.args.events.now are) (let taken = length-take-le (c.args.k + 1) c.args.events.now (let within = c.requires.there in omega (arith, within)) in let few = c.requires.few in let within = c.requires.there in omega (arith, taken, few, within)) in
    IfOk-weaker c.answer_queries.result (λ answers. answers ≡ flat_map (answers_of c.args.plan.now (take (c.args.k + 1) c.args.events.now) c.index-events-k.result) c.args.plan.now.paths) (λ answers. answers ≡ answers_to queries (take (c.args.k + 1) c.args.events.now) e)
    (λ answers same. same ∙ all_answers shape queries c.args.plan.now c.args.events.now c.args.k c.index-events-k.result e is c.index-events-k.is there)
    (c.answer_queries.ensures exact)
