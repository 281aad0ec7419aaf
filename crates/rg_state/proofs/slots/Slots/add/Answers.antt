use Rattle.std.proofs.Common.{ap}
use Rattle.rg_state.specs.Slots.{slot_filled}
use Rattle.rg_state.proofs.Slotted.{found_in}
use Rattle.rg_state.proofs.slots.Slots.add.Goals as goal

pub add_at-requires-clause-used : goal.add_at-requires-clause-used
add_at-requires-clause-used c =
    let rows = c.find.new.self.rows.items in
    slot_filled rows c.args.key.now c.in-Some.slot (found_in rows c.args.self.now.rows.items c.args.key.now c.in-Some.slot (ap (λ rows. rows.items) c.in-Some.ensures.rows) c.in-Some.ensures.slot)
