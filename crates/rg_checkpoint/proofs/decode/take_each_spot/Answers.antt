use Rattle.std.proofs.Common.{◌≡◌, ◌++◌, ◌∷◌, [], rules}
use Rattle.rg_bytes.proofs.Laws.{step_counted, step_to_come, step_stops, step_taken, step_legal}
use Rattle.rg_checkpoint.specs.declared.fault.CheckpointFault.TheVariants.{Memory}
use Rattle.rg_checkpoint.specs.Base.{spot_bytes, IsSpot}
use Rattle.rg_checkpoint.specs.Reading.{next_spot_at}
use Rattle.rg_checkpoint.proofs.decode.take_each_spot.Goals as goal

pub loop-done-preserved : goal.loop-done-preserved
loop-done-preserved c =
    let old = c.loop-done.spots.items in
    let new = c.push.new.self.items in
    let spot = c.in-Ok.spot in
    let left = c.take_spot.new.from in
    let pushed : new ≡ old ++ spot ∷ [] = c.in-Ok-push.ensures.items in
    record {
      counted = step_counted old new spot c.loop-done.done pushed c.loop-done.invariant.counted;
      to_come = step_to_come next_spot_at old new spot c.args.count c.loop-done.done c.args.from.now c.loop-done.from left pushed (search rules) c.loop-done.invariant.to_come c.in-Ok.ensures.agrees;
      taken = step_taken spot_bytes old new spot c.args.from.now c.loop-done.from left pushed c.loop-done.invariant.taken c.in-Ok.ensures.ok;
      legal = step_legal IsSpot old new spot pushed c.loop-done.invariant.legal c.in-Ok.ensures.legal;
    }

pub returns-in-Err-clause-agrees : goal.returns-in-Err-clause-agrees
returns-in-Err-clause-agrees c =
    step_stops Memory next_spot_at c.loop-done.spots.items c.args.count c.loop-done.done c.args.from.now c.loop-done.from c.in-Err.fault (search rules) c.loop-done.invariant.to_come c.in-Err.ensures.agrees
