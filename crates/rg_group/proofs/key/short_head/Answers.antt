use Rattle.std.proofs.Common.{◌≡◌, ◌+◌, ◌*◌, suc, ap₂, arith}
use Rattle.rg_group.proofs.Heads.{fits, small_more, one_more}
use Rattle.rg_group.proofs.key.short_head.Goals as goal

pub overflow_mul-head : goal.overflow_mul-head
overflow_mul-head c = omega (arith, fits c.loop-place.place c.loop-place.head 0 c.loop-place.invariant.small (omega arith) (omega arith))

pub overflow_add-head : goal.overflow_add-head
overflow_add-head c = omega (arith, fits c.loop-place.place c.loop-place.head c.byte_at.result c.loop-place.invariant.small (omega arith) (omega arith))

pub loop-place-preserved : goal.loop-place-preserved
loop-place-preserved c =
    let one : c.loop-place.place + 1 ≡ suc c.loop-place.place = omega arith in
    record {
      so_far = rw (one, one_more c.loop-place.place 0 c.args.bytes.now) (ap₂ (λ head byte. head * 256 + byte) c.loop-place.invariant.so_far c.byte_at.ensures);
      small = rw one (small_more c.loop-place.place c.loop-place.head c.byte_at.result c.loop-place.invariant.small (omega arith));
    }
