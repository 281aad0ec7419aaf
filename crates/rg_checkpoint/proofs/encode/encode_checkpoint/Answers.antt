use Rattle.std.proofs.Common.{rules}
use Rattle.rg_checkpoint.proofs.Puts.{encodes, rows_legal}
use Rattle.rg_checkpoint.proofs.encode.encode_checkpoint.Goals as goal

pub returns-in-Ok-write_rows-clause-written : goal.returns-in-Ok-write_rows-clause-written
returns-in-Ok-write_rows-clause-written g c = λ tells.
    let cells = g.T.Table.cell c.args.table.now in
    let rows = c.in-Ok-write_rows.ensures.written tells in
    encodes cells c.args.queries.now c.args.count c.args.spots.now c.args.out.now.items c.put_front.new.out.items c.write_rows.new.out.items rows c.in-Ok.ensures.queries (search rules) c.in-Ok.ensures.spots
    (rows_legal cells rows.rows.0 rows.rows.1 (λ node key held found.
    let law = g.met.T.Table in
    record { node = (law.bounded c.args.table.now node key held tells found).0; key = (law.bounded c.args.table.now node key held tells found).1; some = law.filled c.args.table.now node key held tells found; held = law.states c.args.table.now node key held tells found }))
    c.in-Ok.ensures.ok
