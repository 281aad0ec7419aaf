use Rattle.std.proofs.Common.{rules}
use Rattle.rg_checkpoint.proofs.Puts.{encodes_changes, changes_legal}
use Rattle.rg_checkpoint.proofs.encode.encode_changes.Goals as goal

pub returns-in-Ok-write_changes-clause-written : goal.returns-in-Ok-write_changes-clause-written
returns-in-Ok-write_changes-clause-written g c = λ tells.
    let named = g.T.Table.named c.args.table.now in
    let there = g.T.Table.there c.args.table.now in
    let cells = g.T.Table.cell c.args.table.now in
    let law = g.met.T.Table in
    let written = c.in-Ok-write_changes.ensures.written tells in
    encodes_changes named there cells c.args.count c.args.spots.now c.args.out.now.items c.put_change_front.new.out.items c.write_changes.new.out.items written.0 written.1 (search rules) c.in-Ok.ensures.spots
    (changes_legal named there cells written.1.changes written.1.lists
    (λ node key held found. (record { node = (law.bounded c.args.table.now node key held tells found).0; key = (law.bounded c.args.table.now node key held tells found).1; some = law.filled c.args.table.now node key held tells found; held = law.states c.args.table.now node key held tells found }))
    (λ node key stood. law.there_bounded c.args.table.now node key tells stood))
    c.in-Ok.ensures.ok written.2
