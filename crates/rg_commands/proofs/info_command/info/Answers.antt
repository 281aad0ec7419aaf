use Rattle.std.proofs.Common.{Some}
use Rattle.rg_commands.specs.declared.command.Command.TheVariants.{Info}
use Rattle.rg_commands.proofs.Ends.{own_after, every_then}
use Rattle.rg_commands.proofs.Showing.{show_ends, show_promises}
use Rattle.rg_commands.proofs.info_command.info.Goals as goal

pub returns-clause-every : goal.returns-clause-every
returns-clause-every g c =
    let ends = show_ends g.H.Host _ _ _ _ _ _ _ c.end.ensures.put (own_after c.tell_store-done.result) c.tell_store-done.ensures.goes (Some Info) tt (λ plan. plan) (λ run. run) in
    rw c.end.ensures.status (every_then g.H.Host _ _ _ _ c.end.ensures.put ends.later _ _ _ _ _ (own_after c.tell_store-done.result) ends)

pub returns-clause-promises : goal.returns-clause-promises
returns-clause-promises g c = rw c.end.ensures.status (show_promises g.H.Host _ _ _ _ _ _ _ c.end.ensures.put (own_after c.tell_store-done.result) c.tell_store-done.ensures.goes)
