use Rattle.std.proofs.Common.{◌+◌, ◌≤◌, length, arith}
use Rattle.std.specs.Prelude.{vec_capacity}
use Rattle.rg_state.proofs.Flagged.{listed_after}
use Rattle.rg_state.proofs.touched.Touched.grow.Goals as goal

pub invariant_of-self-2 : goal.invariant_of-self-2
invariant_of-self-2 c =
    let self = c.args.self.now in
    let room : length self.flags.items + 1 ≤ vec_capacity c.reserve.new.self = omega (arith, c.in_ok-reserve.ensures.ok, c.reserve.ensures.len, c.saturating_sub.ensures, c.len.ensures, c.len-count.ensures, self.flags.ok.0, self.slots.ok.0) in
    record { listed = listed_after c.push.result self.flags.items c.push.new.self.items self.slots.items c.reserve.new.self.items (vec_capacity self.slots) (vec_capacity c.reserve.new.self) self.listed c.push.ensures.items c.reserve.ensures.items room }
