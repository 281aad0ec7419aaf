use Rattle.std.proofs.Common.{◌≡◌}
use Rattle.rg_checkpoint.specs.declared.fault.CheckpointFault.TheVariants.{BadCheckpoint}
use Rattle.rg_checkpoint.proofs.Back.{base_is_one, no_base, more_left, same_base}
use Rattle.rg_checkpoint.proofs.decode.decode_checkpoint.Goals as goal

pub returns-in-Err-clause-bad : goal.returns-in-Err-clause-bad
returns-in-Err-clause-bad c = λ is checkpoint base.
    let bad : c.in-Err.fault ≡ BadCheckpoint = cc in
    no_base c.args.payload.now c.new-from.result c.in-Err.fault checkpoint c.new-from.ensures c.in-Err.ensures.agrees bad base

pub returns-in-Err-clause-one : goal.returns-in-Err-clause-one
returns-in-Err-clause-one c = base_is_one c.args.payload.now

pub returns-then-left-ne0-clause-bad : goal.returns-then-left-ne0-clause-bad
returns-then-left-ne0-clause-bad c = λ is checkpoint base.
    more_left c.args.payload.now c.new-from.result c.take_base.new.from c.left.result c.in-Ok.checkpoint checkpoint c.new-from.ensures c.in-Ok.ensures.agrees c.left.ensures c.if-left-ne0.true base

pub returns-then-left-ne0-clause-one : goal.returns-then-left-ne0-clause-one
returns-then-left-ne0-clause-one c = base_is_one c.args.payload.now

pub returns-clause-reads_back : goal.returns-clause-reads_back
returns-clause-reads_back c = λ checkpoint base.
    same_base c.args.payload.now c.new-from.result c.take_base.new.from c.left.result c.in-Ok.checkpoint checkpoint c.new-from.ensures c.in-Ok.ensures.agrees c.left.ensures c.if-left-ne0.false base

pub returns-clause-one : goal.returns-clause-one
returns-clause-one c = base_is_one c.args.payload.now
