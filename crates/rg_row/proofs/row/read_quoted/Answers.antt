use Rattle.std.proofs.Common.{sym, ◌∙◌}
use Rattle.rg_row.proofs.Quoted.{csv_fields}
use Rattle.rg_row.proofs.row.read_quoted.Goals as goal

pub returns-in-Ok-Some : goal.returns-in-Ok-Some
returns-in-Ok-Some c =
    let read = csv_fields c.args.line.now _ c.requires.some c.requires.unmarked (sym c.contains.ensures.value ∙ c.if-contains.false) c.requires.one_line (sym c.if-not-is_split.ensures)
    (rw c.in-Ok-Some.field-0-is at c.in-Ok-Some.ensures) in
    rw read.0 c.read_event.ensures

pub unreachable-requires : goal.unreachable-requires
unreachable-requires c =
    let read = csv_fields c.args.line.now _ c.requires.some c.requires.unmarked (sym c.contains.ensures.value ∙ c.if-contains.false) c.requires.one_line (sym c.if-not-is_split.ensures)
    (rw c.in-Ok-None.field-0-is at c.in-Ok-None.ensures) in
    cc read.1
