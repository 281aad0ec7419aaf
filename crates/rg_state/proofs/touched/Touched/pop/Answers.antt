use Rattle.std.proofs.Common.{arith}
use Rattle.std.specs.Prelude.{vec_capacity}
use Rattle.rg_state.proofs.Flagged.{last_within, listed_popped}
use Rattle.rg_state.proofs.touched.Touched.pop.Goals as goal

pub index_mut-requires : goal.index_mut-requires
index_mut-requires c =
    let self = c.args.self.now in
    omega (arith, last_within self.flags.items self.slots.items c.pop.new.self.items (vec_capacity self.slots) c.in-Some.slot self.listed c.in-Some.ensures.items, self.flags.ok)

pub invariant_of-self-in-Some : goal.invariant_of-self-in-Some
invariant_of-self-in-Some c =
    let self = c.args.self.now in
    record { listed = listed_popped self.flags.items self.slots.items c.pop.new.self.items (vec_capacity self.slots) (vec_capacity c.pop.new.self) c.in-Some.slot self.listed c.in-Some.ensures.items c.pop.ensures.capacity }
