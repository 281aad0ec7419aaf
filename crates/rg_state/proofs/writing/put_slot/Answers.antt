use Rattle.std.proofs.Common.{arith, sym}
use Rattle.rg_state.specs.Cells.{key_at}
use Rattle.rg_state.proofs.Sheeted.{ready_slot, gets_slot}
use Rattle.rg_state.proofs.Slotted.{key_there}
use Rattle.rg_state.proofs.writing.put_slot.Goals as goal

pub index-rows-requires : goal.index-rows-requires
index-rows-requires c = omega (arith, c.requires.within, c.args.slots.now.rows.ok)

pub put_key-requires-clause-ready : goal.put_key-requires-clause-ready
put_key-requires-clause-ready c =
    let rows = c.args.slots.now.rows.items in
    rw (c.deref.ensures, sym (key_there rows c.args.slot c.index-rows.result.now c.requires.within c.index-rows.ensures))
    (ready_slot c.args.wanted (key_at rows c.args.slot) rows c.args.slot c.index-rows.result.now c.args.sheets.now.items c.index-rows.ensures c.requires)

pub returns : goal.returns
returns c =
    let rows = c.args.slots.now.rows.items in
    gets_slot c.args.wanted (key_at rows c.args.slot) rows c.args.slot c.index-rows.result.now c.args.sheets.now.items c.put_key.new.sheets.items c.requires.within c.index-rows.ensures
    (rw (c.deref.ensures, sym (key_there rows c.args.slot c.index-rows.result.now c.requires.within c.index-rows.ensures)) at c.in_ok-put_key.ensures)
