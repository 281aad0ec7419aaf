use Rattle.std.proofs.Common.{refl, arith}
use Rattle.rg_commands.proofs.Ends.{own_after, every_then}
use Rattle.rg_commands.proofs.Running.{run_promises}
use Rattle.rg_commands.proofs.run_command.run.Goals as goal

pub returns-clause-every : goal.returns-clause-every
returns-clause-every g c =
    let ends = c.run_by_plan-done.ensures.ends in
    rw (c.end.ensures.status, c.refusal_after.ensures) (every_then g.H.Host _ _ _ _ c.end.ensures.put ends.later _ _ _ _ _ (own_after c.run_by_plan-done.result) ends)

pub returns-clause-promises : goal.returns-clause-promises
returns-clause-promises g c = rw c.end.ensures.status (run_promises g.H.Host g.met.H.Host.now_may g.met.H.Host.only_now g.met.H.Host.sinks _ _ _ _ _ _ _ _ _ c.end.ensures.put (own_after c.run_by_plan-done.result) c.run_by_plan-done.ensures.ends c.run_by_plan-done.ensures.goes)

-- a ledger of its own

pub run_by_plan-done-requires-clause-of_ledger : goal.run_by_plan-done-requires-clause-of_ledger
run_by_plan-done-requires-clause-of_ledger g c = record { named = refl; cut = refl; whole = omega (arith, c.new.ensures) }
