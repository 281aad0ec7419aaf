use Rattle.std.proofs.Common.{inl, inr, refl, arith}
use Rattle.rg_config.specs.Plans.{planned}
use Rattle.rg_commands.proofs.replay_command.replay_by_plan.Goals as goal

-- the plan was not taken

pub returns-in-Err : goal.returns-in-Err
returns-in-Err g c = record { goes = inl (c.in-Err.ensures.unread, refl) }

-- it was read

pub returns : goal.returns
returns g c = record { goes = inr (planned c.in-Ok.asked, c.in-Ok.ensures.legal, c.replay_log.ensures.goes) }

-- a ledger of its own

pub replay_log-requires-clause-of_ledger : goal.replay_log-requires-clause-of_ledger
replay_log-requires-clause-of_ledger g c = record { named = refl; cut = refl; whole = omega (arith, c.new.ensures) }
