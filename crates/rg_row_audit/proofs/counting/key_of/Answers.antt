use Rattle.rg_group.proofs.Laws.{bytes_written}
use Rattle.std.proofs.Common.{refl}
use Rattle.rg_row_audit.proofs.counting.key_of.Goals as goal

pub columns-preserved : goal.columns-preserved
columns-preserved c =
    bytes_written c.args.columns.now c.columns.column-index _ c.args.event.now c.columns.bytes.items c.put_part.new.out.items c.columns-test.true refl c.columns.invariant c.in_ok-put_part.ensures
