use Rattle.std.proofs.Common.{ℕ, List, ◌∷◌, ◌++◌, refl, sym, ◌∙◌, subst}
use Rattle.rg_pipe.specs.Judging.{Judges}
use Rattle.rg_pipe.proofs.Requests.{be32, be64, rest_of}
use Rattle.rg_pipe.proofs.judge.judge_line.Goals as goal

pub returns-in-Ok : goal.returns-in-Ok
returns-in-Ok c =
    let P : List ℕ → Type 0 = λ l. Judges c.judge_text.result (be32 c.args.size ++ 1 ∷ l) in
    subst P (rest_of c.args.rest.now (be64 c.in-Ok.offset) c.u64.new.self 8 refl (sym c.new-reader.ensures ∙ c.in-Ok.ensures.ok)) c.judge_text.ensures
