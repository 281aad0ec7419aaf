use Rattle.std.proofs.Common.{◌<◌, length, arith}
use Rattle.std.proofs.lemmas.Bool.Decides.{nat_tests}
use Rattle.rg_checkpoint.proofs.Turned.{all_step}
use Rattle.rg_checkpoint.proofs.applying.move_all.Goals as goal

pub loop-out-preserved : goal.loop-out-preserved
loop-out-preserved c =
    let some : 0 < length c.loop-out.old.items = grind (arith, nat_tests) in
    record {
      moved = all_step c.loop-out.out.items c.move_one.new.out.items c.loop-out.old.items c.move_one.new.old.items _ some c.move_one.ensures.moved c.loop-out.invariant.moved;
      room = omega (arith, c.move_one.ensures.room, c.move_one.ensures.capacity, c.loop-out.invariant.room);
    }
