use Rattle.std.proofs.Common.{◌∙◌, ◌+◌, refl, sym, arith}
use Rattle.rg_state.proofs.Sheeted.{room_of, count_is, put_one, leave_one}
use Rattle.rg_state.proofs.sheets.put_row.Goals as goal

pub returns-then-not-is_wanted : goal.returns-then-not-is_wanted
returns-then-not-is_wanted c = leave_one c.args.wanted c.args.key.now c.args.kept.now c.args.sheets.now.items (sym c.is_wanted.ensures ∙ c.if-not-is_wanted.true)

pub index_mut-sheet-requires : goal.index_mut-sheet-requires
index_mut-sheet-requires c = omega (arith, (room_of c.args.wanted c.args.key.now c.args.kept.now c.args.sheets.now.items (sym c.is_wanted.ensures ∙ c.if-not-is_wanted.false) c.requires).there, c.args.sheets.now.ok)

pub overflow_add-sheet : goal.overflow_add-sheet
overflow_add-sheet c =
    let room = room_of c.args.wanted c.args.key.now c.args.kept.now c.args.sheets.now.items (sym c.is_wanted.ensures ∙ c.if-not-is_wanted.false) c.requires in
    omega (arith, count_is c.args.sheets.now.items c.args.kept.now.node c.index_mut-sheet.result.now room.there c.index_mut-sheet.ensures.value room.few)

pub returns : goal.returns
returns c =
    let is = sym c.is_wanted.ensures ∙ c.if-not-is_wanted.false in
    put_one c.args.wanted c.args.key.now c.args.kept.now c.args.sheets.now.items c.index_mut-sheet.result.now (record { bytes = c.write_row.new.out; rows = c.index_mut-sheet.result.now.rows + 1 })
    is (room_of c.args.wanted c.args.key.now c.args.kept.now c.args.sheets.now.items is c.requires).there c.index_mut-sheet.ensures.value c.in_ok-write_row.ensures refl
