use Rattle.std.proofs.Common.{◌<◌, ◌^◌, ◌++◌, ◌∙◌, length, refl, ap, subst}
use Rattle.std.specs.Int.{w64, to_be_bytes}
use Rattle.rg_state.specs.Cells.{told_row, entries_from}
use Rattle.rg_state.specs.CellLaws.{lists_changes}
use Rattle.rg_state.specs.Changes.{changes_bytes}
use Rattle.rg_state.proofs.Sheeted.{changes_counted, changes_put}
use Rattle.rg_state.proofs.mem_table.MemTableTable.write_changes.Goals as goal

pub returns-in-Ok-clause-written : goal.returns-in-Ok-clause-written
returns-in-Ok-clause-written c told =
    let slots = c.args.self.now.slots in
    let nodes = c.args.self.now.nodes in
    let made = c.in-Ok.ensures.ok in
    let entries = entries_from (told_row slots.rows.items) 0 nodes made.pairs in (
      to_be_bytes w64 (length entries) ++ changes_bytes entries,
      record {
        changes = entries;
        lists = lists_changes slots.rows.items nodes made.pairs made.order c.args.self.now.below;
        few = subst (λ n. n < 2 ^ 64) (changes_counted slots.rows.items nodes made.pairs) made.few;
        is = refl;
      },
      made.is ∙ ap (λ bytes. c.args.out.now.items ++ bytes) (changes_put slots.rows.items nodes made.pairs),
    )
