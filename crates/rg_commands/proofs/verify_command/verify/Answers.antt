use Rattle.rg_commands.proofs.Ends.{own_after, every_then}
use Rattle.rg_commands.proofs.Verifying.{verify_ends, verify_promises}
use Rattle.rg_commands.proofs.verify_command.verify.Goals as goal

pub returns-clause-every : goal.returns-clause-every
returns-clause-every g c =
    let ends = verify_ends g.H.Host g.met.H.Host.only_now g.met.H.Host.sinks _ _ _ _ _ _ _ c.end.ensures.put (own_after c.verify_by_plan-done.result) c.verify_by_plan-done.ensures.goes in
    rw (c.end.ensures.status, c.refusal_after.ensures) (every_then g.H.Host _ _ _ _ c.end.ensures.put ends.later _ _ _ _ _ (own_after c.verify_by_plan-done.result) ends)

pub returns-clause-promises : goal.returns-clause-promises
returns-clause-promises g c = rw c.end.ensures.status (verify_promises g.H.Host g.met.H.Host.only_now g.met.H.Host.sinks _ _ _ _ _ _ _ c.end.ensures.put (own_after c.verify_by_plan-done.result) c.verify_by_plan-done.ensures.goes)
