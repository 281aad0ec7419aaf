use Rattle.std.proofs.Common.{None, sym, ◌∙◌}
use Rattle.rg_config.specs.Plans.{planned}
use Rattle.rg_task.specs.Terms.{terms_of}
use Rattle.rg_run.proofs.Texts.{as_header, as_long}
use Rattle.rg_run.proofs.turn.reply_to_long.Goals as goal

pub returns-then-is_header : goal.returns-then-is_header
returns-then-is_header c = as_header (terms_of (planned c.args.plan.now)).basis c.args.offset None (sym c.is_header.ensures ∙ c.if-is_header.true)

pub returns : goal.returns
returns c = as_long (terms_of (planned c.args.plan.now)).basis c.args.offset (sym c.is_header.ensures ∙ c.if-is_header.false)
