use Rattle.rg_row_audit.proofs.Maps.{not_at}
use Rattle.rg_row_audit.proofs.keeping.is_kept.Goals as goal

pub returns-in-Some-clause-others : goal.returns-in-Some-clause-others
returns-in-Some-clause-others c = λ other isnt. c.remove.ensures.updates.2 other (not_at c.args.row.now.key other isnt)
