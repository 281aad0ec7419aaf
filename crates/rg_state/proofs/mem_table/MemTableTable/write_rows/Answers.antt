use Rattle.std.proofs.Common.{◌<◌, ◌^◌, ◌++◌, ◌∙◌, refl, ap, subst}
use Rattle.rg_state.specs.Cells.{held_row, entries_from}
use Rattle.rg_state.specs.CellLaws.{lists_rows}
use Rattle.rg_state.specs.Rows.{entries_bytes}
use Rattle.rg_state.proofs.Sheeted.{rows_counted, rows_put}
use Rattle.rg_state.proofs.mem_table.MemTableTable.write_rows.Goals as goal

pub returns-in-Ok-clause-written : goal.returns-in-Ok-clause-written
returns-in-Ok-clause-written c told =
    let slots = c.args.self.now.slots in
    let nodes = c.args.self.now.nodes in
    let written = c.in-Ok.ensures.ok in
    let entries = entries_from (held_row slots.rows.items) 0 nodes written.pairs in
    record {
      written = entries_bytes entries;
      rows = (entries, lists_rows slots.rows.items nodes written.pairs written.order c.args.self.now.below, refl);
      few = subst (λ n. n < 2 ^ 64) (rows_counted slots.rows.items nodes written.pairs) written.few;
      added = written.is ∙ ap (λ bytes. c.args.out.now.items ++ bytes) (rows_put slots.rows.items nodes written.pairs);
    }
