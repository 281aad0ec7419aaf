use Rattle.std.proofs.Common.{rules}
use Rattle.rg_bytes.specs.Keeps.{Keeps}
use Rattle.rg_bytes.proofs.Laws.{kept_on, kept_through}
use Rattle.rg_reply.proofs.reply.put_answered.Goals as goal

pub returns-in_err-put_answer-clause-err : goal.returns-in_err-put_answer-clause-err
returns-in_err-put_answer-clause-err c =
    let kept : Keeps c.args.out.now.items c.put_answer.new.out.items =
    kept_on _ c.loop-answer.out.items _ c.loop-answer.invariant.keeps (kept_through _ _ _ _ c.in_ok-put_u8.ensures.ok c.in_err-put_answer.ensures.err) in
    search (rules, kept)
