use Rattle.std.proofs.Common.{◌≡◌, ◌++◌, ◌∷◌, [], rules}
use Rattle.rg_bytes.proofs.Laws.{step_counted, step_to_come, step_taken, step_legal}
use Rattle.rg_checkpoint.specs.Base.{text_bytes, IsText}
use Rattle.rg_checkpoint.specs.Reading.{next_text_at}
use Rattle.rg_checkpoint.proofs.decode.take_each_text.Goals as goal

pub loop-done-preserved : goal.loop-done-preserved
loop-done-preserved c =
    let old = c.loop-done.texts in
    let new = c.push.new.self in
    let text = c.in-Ok.text in
    let left = c.take_text.new.from in
    let pushed : new ≡ old ++ text ∷ [] = c.in-Ok-push.ensures.ok in
    record {
      counted = step_counted old new text c.loop-done.done pushed c.loop-done.invariant.counted;
      to_come = step_to_come next_text_at old new text c.args.count c.loop-done.done c.args.from.now c.loop-done.from left pushed (search rules) c.loop-done.invariant.to_come c.in-Ok.ensures.agrees;
      taken = step_taken text_bytes old new text c.args.from.now c.loop-done.from left pushed c.loop-done.invariant.taken c.in-Ok.ensures.ok;
      legal = step_legal IsText old new text pushed c.loop-done.invariant.legal c.in-Ok.ensures.legal;
    }
