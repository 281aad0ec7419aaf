use Rattle.std.proofs.Common.{refl, sym, ap, ◌∙◌, subst}
use Rattle.rg_host.specs.Effects.{said_after}
use Rattle.rg_host.specs.MemHost.{said_in}
use Rattle.rg_restarts.specs.Twice.{MayEnd}
use Rattle.rg_restarts.proofs.Stops.{both_left, ready_left, store_left, all_left, rest_put, second_ends}
use Rattle.rg_restarts.proofs.twice.run_twice.Goals as goal

pub returns-clause-truthful : goal.returns-clause-truthful
returns-clause-truthful c = λ start u may.
    let first = c.in_ok-stopped.ensures.left start in
    let left = both_left start.asks c.args.input.now start.store.held first.0 c.in_ok-stopped.stopped.left c.run_on.result.1 c.in_ok-stopped.ensures.begun c.in_ok-stopped.ensures.settled first.2 c.run_on.result.3
    (c.run_on.ensures.runs start.names_run start.asks start.says) u may in
    (left.truthful, record { events = left.events; has = left.has; such = left.begins })

pub returns-clause-keeps : goal.returns-clause-keeps
returns-clause-keeps c = λ start u may.
    let first = c.in_ok-stopped.ensures.left start in
    let left = both_left start.asks c.args.input.now start.store.held first.0 c.in_ok-stopped.stopped.left c.run_on.result.1 c.in_ok-stopped.ensures.begun c.in_ok-stopped.ensures.settled first.2 c.run_on.result.3
    (c.run_on.ensures.runs start.names_run start.asks start.says) u may in
    record { events = left.events; has = left.has; such = left.keeps }

pub returns-clause-stored : goal.returns-clause-stored
returns-clause-stored c = λ start.
    let first = c.in_ok-stopped.ensures.left start in (
      first.0,
      said_after c.run_on.result.1.effects,
      ap said_in c.run_on.ensures.first.0 ∙ first.1,
      refl,
      λ u may.
          let left = both_left start.asks c.args.input.now start.store.held first.0 c.in_ok-stopped.stopped.left c.run_on.result.1 c.in_ok-stopped.ensures.begun c.in_ok-stopped.ensures.settled first.2 c.run_on.result.3
          (c.run_on.ensures.runs start.names_run start.asks start.says) u may in
          record { events = left.events; has = left.has; such = left.stored },
    )

pub returns-clause-complete : goal.returns-clause-complete
returns-clause-complete c = λ start ok u may.
    let first = c.in_ok-stopped.ensures.left start in
    let ready = ready_left start.asks c.args.input.now start.store.held first.0 c.in_ok-stopped.stopped.left c.run_on.result.1 c.in_ok-stopped.ensures.begun c.in_ok-stopped.ensures.settled first.2 in
    all_left start.asks c.args.input.now start.store.held first.0 c.in_ok-stopped.stopped.left c.run_on.result.1 c.in_ok-stopped.ensures.begun c.in_ok-stopped.ensures.settled first.2 u
    (((c.run_on.ensures.runs start.names_run start.asks start.says).has_run ready).complete ok u may)

pub returns-clause-resumes : goal.returns-clause-resumes
returns-clause-resumes c = λ start ok.
    let first = c.in_ok-stopped.ensures.left start in
    let ready = ready_left start.asks c.args.input.now start.store.held first.0 c.in_ok-stopped.stopped.left c.run_on.result.1 c.in_ok-stopped.ensures.begun c.in_ok-stopped.ensures.settled first.2 in
    let store = store_left start.asks c.args.input.now start.store.held first.0 c.in_ok-stopped.stopped.left c.run_on.result.1 c.in_ok-stopped.ensures.begun c.in_ok-stopped.ensures.settled first.2 in
    rest_put start.asks c.args.input.now start.store.held first.0 c.in_ok-stopped.stopped.left c.run_on.result.1 c.in_ok-stopped.ensures.begun c.in_ok-stopped.ensures.settled first.2
    (((c.run_on.ensures.runs start.names_run start.asks start.says).has_run ready).resumes ok store.on_course)

pub returns-clause-second_status : goal.returns-clause-second_status
returns-clause-second_status c = λ start.
    let first = c.in_ok-stopped.ensures.left start in
    let ready = ready_left start.asks c.args.input.now start.store.held first.0 c.in_ok-stopped.stopped.left c.run_on.result.1 c.in_ok-stopped.ensures.begun c.in_ok-stopped.ensures.settled first.2 in
    second_ends c.run_on.result.3 c.in_ok-stopped.stopped.left c.run_on.result.1 c.in_ok-stopped.stopped.left.first c.in_ok-stopped.ensures.begun
    (c.run_on.ensures.ends start.names_run start.asks start.says ready start.within)

pub returns-clause-first_status : goal.returns-clause-first_status
returns-clause-first_status c = λ start. subst MayEnd (sym c.run_on.ensures.first.1) (c.in_ok-stopped.ensures.status start)
