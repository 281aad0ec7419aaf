use Rattle.std.proofs.lemmas.Result.{on_err_weaker}
use Rattle.rg_bytes.proofs.Laws.{kept_through}
use Rattle.rg_reply.proofs.reply.put_ratio.Goals as goal

pub returns-clause-err : goal.returns-clause-err
returns-clause-err c = on_err_weaker c.put_numbered.result (kept_through _ _ _ _ c.in_ok-write_signed.ensures.ok) c.put_numbered.ensures.err
