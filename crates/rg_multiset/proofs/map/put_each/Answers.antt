use Rattle.rg_bytes.proofs.Laws.{kept_on, kept_same, kept_through}
use Rattle.rg_multiset.proofs.Kept.{on_err_of}
use Rattle.rg_multiset.proofs.map.put_each.Goals as goal

pub returns-in_err-put_u64-clause-err : goal.returns-in_err-put_u64-clause-err
returns-in_err-put_u64-clause-err g c =
    on_err_of c.from_residual-in_err-put_u64.result (kept_on _ _ _ c.loop-key.invariant.keeps (kept_through _ _ _ _ c.in_ok-put.ensures.ok (kept_same _ _ c.in_err-put_u64.ensures.err)))
