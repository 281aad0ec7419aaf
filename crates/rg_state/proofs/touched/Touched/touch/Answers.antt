use Rattle.std.proofs.Common.{◌≡◌, ◌∙◌, false}
use Rattle.std.specs.Prelude.{vec_capacity}
use Rattle.rg_state.specs.Touched.{flag_at}
use Rattle.rg_state.proofs.Flagged.{flag_there, room_left, listed_added}
use Rattle.rg_state.proofs.touched.Touched.touch.Goals as goal

pub push_within-requires : goal.push_within-requires
push_within-requires c =
    let self = c.args.self.now in
    let off : flag_at self.flags.items c.args.slot ≡ false = flag_there self.flags.items c.args.slot c.index.result.now c.requires c.index.ensures ∙ c.if-index.false in
    room_left self.flags.items self.slots.items (vec_capacity self.slots) c.args.slot self.listed c.requires off

pub invariant_of-self : goal.invariant_of-self
invariant_of-self c =
    let self = c.args.self.now in
    let off : flag_at self.flags.items c.args.slot ≡ false = flag_there self.flags.items c.args.slot c.index.result.now c.requires c.index.ensures ∙ c.if-index.false in
    record { listed = listed_added self.flags.items self.slots.items c.push_within.new.list.items (vec_capacity self.slots) (vec_capacity c.push_within.new.list) c.args.slot self.listed c.requires off c.push_within.ensures.items c.push_within.ensures.capacity }
