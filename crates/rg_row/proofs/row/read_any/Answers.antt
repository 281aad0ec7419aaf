use Rattle.std.proofs.Common.{sym, ◌∙◌, arith}
use Rattle.rg_row.proofs.Bare.{bare_fields}
use Rattle.rg_row.proofs.row.read_any.Goals as goal

pub returns-in-None : goal.returns-in-None
returns-in-None c =
    let fields = bare_fields c.args.line.now (sym c.is_empty.ensures ∙ c.if-is_empty.false) (sym c.starts_marked.ensures ∙ c.if-starts_marked.false) (λ k below. c.in-None.ensures k (omega arith) below) in
    rw fields c.read_event.ensures
