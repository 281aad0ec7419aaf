use Rattle.std.proofs.Common.{ℕ, List, refl, rules, sym, ◌∙◌, subst}
use Rattle.rg_pipe.specs.Judging.{Judges}
use Rattle.rg_pipe.proofs.Requests.{be32, rest_of, body_within}
use Rattle.rg_pipe.proofs.judge.judge.Goals as goal

pub judge_body-requires-clause-within : goal.judge_body-requires-clause-within
judge_body-requires-clause-within c = body_within c.args.bytes.now c.u32.new.self c.in-Ok.size (sym c.new-reader.ensures ∙ c.in-Ok.ensures.ok) (search rules) c.requires.sized

pub returns-in-Ok : goal.returns-in-Ok
returns-in-Ok c =
    let P : List ℕ → Type 0 = λ l. Judges c.judge_body.result l in
    subst P (rest_of c.args.bytes.now (be32 c.in-Ok.size) c.u32.new.self 4 refl (sym c.new-reader.ensures ∙ c.in-Ok.ensures.ok)) c.judge_body.ensures
