use Rattle.std.proofs.Common.{rules}
use Rattle.rg_chunk.proofs.Heads.{reads_short, stamp_short, stamp_no_time, stamp_read}
use Rattle.rg_chunk.proofs.head.take_stamp.Goals as goal

pub returns-in_err-offset-clause-agrees : goal.returns-in_err-offset-clause-agrees
returns-in_err-offset-clause-agrees c = reads_short _ c.from_residual.result _ c.from_residual.ensures.1 (stamp_short _ (search rules))

pub returns-in_err-time-clause-agrees : goal.returns-in_err-time-clause-agrees
returns-in_err-time-clause-agrees c =
    reads_short _ c.from_residual-in_err-time.result _ c.from_residual-in_err-time.ensures.1 (stamp_no_time _ c.in_ok-offset.offset c.u64.new.self c.in_ok-offset.ensures.ok (search rules) (search rules))

pub returns-clause-agrees : goal.returns-clause-agrees
returns-clause-agrees c = stamp_read _ c.in_ok-offset.offset c.u64.new.self c.in_ok-time.time c.u64-2.new.self c.in_ok-offset.ensures.ok (search rules) c.in_ok-time.ensures.ok (search rules)
