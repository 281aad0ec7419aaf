use Rattle.std.proofs.Common.{◌≡◌}
use Rattle.rg_checkpoint.specs.declared.fault.CheckpointFault.TheVariants.{BadCheckpoint}
use Rattle.rg_checkpoint.specs.Changed.{update_of}
use Rattle.rg_checkpoint.proofs.UpdatesBack.{no_update, update_left, same_update}
use Rattle.rg_checkpoint.proofs.update.decode_changes.Goals as goal

pub returns-in-Err-clause-bad : goal.returns-in-Err-clause-bad
returns-in-Err-clause-bad c = λ is update is_update.
    let bad : c.in-Err.fault ≡ BadCheckpoint = cc in
    no_update c.args.payload.now c.new-from.result c.in-Err.fault update c.new-from.ensures c.in-Err.ensures.agrees bad is_update

pub returns-then-left-ne0-clause-bad : goal.returns-then-left-ne0-clause-bad
returns-then-left-ne0-clause-bad c = λ is update is_update.
    update_left c.args.payload.now c.new-from.result c.take_changes.new.from c.left.result (update_of c.in-Ok.changes) update c.new-from.ensures c.in-Ok.ensures.agrees c.left.ensures c.if-left-ne0.true is_update

pub returns-clause-reads_back : goal.returns-clause-reads_back
returns-clause-reads_back c = λ update is_update.
    same_update c.args.payload.now c.new-from.result c.take_changes.new.from c.left.result (update_of c.in-Ok.changes) update c.new-from.ensures c.in-Ok.ensures.agrees c.left.ensures c.if-left-ne0.false is_update
