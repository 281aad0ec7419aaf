use Rattle.std.proofs.Common.{◌<◌, ◌^◌, ◌∙◌, ◌++◌, ap, subst}
use Rattle.rg_state.specs.Sheets.{sheets_bytes, sheets_rows}
use Rattle.rg_state.proofs.Sheeted.{filled_few, filled_rows, all_put}
use Rattle.rg_state.proofs.writing.write_counted.Goals as goal

pub count_rows-requires : goal.count_rows-requires
count_rows-requires c =
    let written = c.in_ok-filled.ensures in
    rw c.deref-2.ensures.value (filled_few c.args.wanted c.args.nodes c.args.slots.now.rows.items written.pairs c.in_ok-filled.filled.sheets.items c.requires.few written.few written.filled)

pub returns-clause-ok : goal.returns-clause-ok
returns-clause-ok c =
    let written = c.in_ok-filled.ensures in
    let rows = c.args.slots.now.rows.items in
    let sheets = c.in_ok-filled.filled.sheets.items in
    record {
      pairs = written.pairs;
      order = written.order;
      few = subst (λ n. n < 2 ^ 64) (filled_rows c.args.wanted c.args.nodes rows written.pairs sheets written.filled) (filled_few c.args.wanted c.args.nodes rows written.pairs sheets c.requires.few written.few written.filled);
      is = all_put c.args.wanted c.args.nodes rows written.pairs sheets c.count_rows.result c.args.out.now.items c.reserve.new.self.items c.put_u64.new.out.items c.put_sheets.new.out.items
          written.filled (c.count_rows.ensures ∙ ap sheets_rows c.deref-2.ensures.value) c.in_ok-reserve.ensures.items c.in_ok-put_u64.ensures.ok
          (c.in_ok-put_sheets.ensures.ok ∙ ap (λ sheets. c.put_u64.new.out.items ++ sheets_bytes sheets) c.deref-3.ensures.value);
    }
