use Rattle.std.proofs.Common.{◌∙◌}
use Rattle.rg_row_audit.proofs.Maps.{not_at}
use Rattle.rg_row_audit.proofs.gathering.put_value.Goals as goal

pub returns-clause-others : goal.returns-clause-others
returns-clause-others c = λ other isnt. c.in_ok-insert.ensures.updates.2 other (not_at c.args.key other isnt) ∙ c.take_key.ensures.others other isnt
