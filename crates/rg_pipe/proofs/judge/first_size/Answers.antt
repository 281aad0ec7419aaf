use Rattle.std.proofs.Common.{rules, arith, sym, ◌∙◌}
use Rattle.rg_pipe.proofs.Requests.{few_short, read_size}
use Rattle.rg_pipe.proofs.judge.first_size.Goals as goal

pub returns-in-Err : goal.returns-in-Err
returns-in-Err c = few_short _ (search rules)

pub returns-then-piece-size : goal.returns-then-piece-size
returns-then-piece-size c =
    let size = read_size c.args.piece.now c.u32.new.self c.in-Ok.said (sym c.new-reader.ensures ∙ c.in-Ok.ensures.ok) (search rules) in
    omega (arith, size, c.size_for-size.ensures.size, c.if-piece-size.true)

pub returns : goal.returns
returns c =
    let size = read_size c.args.piece.now c.u32.new.self c.in-Ok.said (sym c.new-reader.ensures ∙ c.in-Ok.ensures.ok) (search rules) in
    (c.size_for-size.ensures.size ∙ sym size, c.if-piece-size.false)
