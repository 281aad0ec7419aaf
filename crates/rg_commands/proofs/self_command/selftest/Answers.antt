use Rattle.rg_commands.proofs.Ends.{own_after, every_then}
use Rattle.rg_commands.proofs.Showing.{self_ends, self_promises}
use Rattle.rg_commands.proofs.self_command.selftest.Goals as goal

pub returns-clause-every : goal.returns-clause-every
returns-clause-every g c =
    let ends = self_ends g.H.Host _ _ _ _ _ _ _ c.end.ensures.put (own_after c.print_trial-done.result) c.print_trial-done.ensures.goes in
    rw c.end.ensures.status (every_then g.H.Host _ _ _ _ c.end.ensures.put ends.later _ _ _ _ _ (own_after c.print_trial-done.result) ends)

pub returns-clause-promises : goal.returns-clause-promises
returns-clause-promises g c = rw c.end.ensures.status (self_promises g.H.Host _ _ _ _ _ _ _ c.end.ensures.put (own_after c.print_trial-done.result) c.print_trial-done.ensures.goes)
