use Rattle.std.proofs.Common.{rules}
use Rattle.rg_row_audit.proofs.Times.{last_is}
use Rattle.rg_row_audit.proofs.check.time_of.Goals as goal

pub returns : goal.returns
returns c = last_is c.args.events.now _ c.index-events-events.result (search rules)
