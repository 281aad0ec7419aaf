use Rattle.std.proofs.Common.{inl, inr, refl}
use Rattle.rg_config.specs.Plans.{planned}
use Rattle.rg_commands.proofs.verify_command.verify_by_plan.Goals as goal

-- the plan was not taken

pub returns-in-Err : goal.returns-in-Err
returns-in-Err g c = record { goes = inl (c.in-Err.ensures.unread, refl) }

-- it was read

pub returns : goal.returns
returns g c = record { goes = inr (planned c.in-Ok.asked, c.in-Ok.ensures.legal, c.verify_slots.ensures.goes) }
