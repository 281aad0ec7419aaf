use Rattle.std.proofs.Common.{rules, sym, subst}
use Rattle.rg_bytes.specs.Counts.{Rose}
use Rattle.rg_reservoir.specs.declared.reservoir.Reservoir.{Reservoir}
use Rattle.rg_open.specs.Starts.{IsToStart, HasStarted, HasNotStarted, LeavesLog}
use Rattle.rg_open.proofs.Moved.{moved}
use Rattle.rg_open.proofs.starting.start.Goals as goal

pub start_over-requires : goal.start_over-requires
start_over-requires g c = record {
  start =
      subst (λ (r : Reservoir). IsToStart c.args.plan.now c.args.task (g.T.Table.tells c.args.table) (g.T.Table.cell c.args.table) r) (sym c.new-past.ensures.reservoir) c.requires.start;
}

pub returns-in-Ok-clause-started : goal.returns-in-Ok-clause-started
returns-in-Ok-clause-started g c =
    let went = rw (c.new-past.ensures.reservoir, c.new-past.ensures.host) at c.in-Ok.ensures.started in
    moved (λ (h : g.row.H.Denot) (r : Reservoir). HasStarted g.H.Host.now g.H.Host.may g.T.Table.tells g.T.Table.faults g.T.Table.named g.T.Table.there g.T.Table.cell c.args.plan.now c.args.saved c.args.table c.args.host.now h c.args.reservoir.now r
    c.args.task c.args.steps.now c.start_over.new.steps c.in-Ok.started.0 c.in-Ok.started.1.slot c.in-Ok.started.1.from)
    c.start_over.new.past.host.now _ c.start_over.new.past.reservoir.now _ (search rules) (search rules) went

pub returns-in-Err-clause-refused : goal.returns-in-Err-clause-refused
returns-in-Err-clause-refused g c =
    let went = rw (c.new-past.ensures.reservoir, c.new-past.ensures.host) at c.in-Err.ensures.refused in
    moved (λ (h : g.row.H.Denot) (r : Reservoir). HasNotStarted g.H.Host.now g.H.Host.may g.T.Table.tells g.T.Table.faults g.T.Table.named g.T.Table.there g.T.Table.cell c.args.plan.now c.args.saved c.args.table c.args.host.now h c.args.reservoir.now r
    (Rose (g.H.Host.disk_faults c.args.host.now) (g.H.Host.disk_faults h)) c.in-Err.refused.0 c.in-Err.refused.1)
    c.start_over.new.past.host.now _ c.start_over.new.past.reservoir.now _ (search rules) (search rules) went

pub returns-in-Ok-clause-leaves : goal.returns-in-Ok-clause-leaves
returns-in-Ok-clause-leaves g c =
    let went = rw (c.new-past.ensures.reservoir, c.new-past.ensures.host) at c.start_over.ensures.leaves in
    moved (λ (h : g.row.H.Denot) (r : Reservoir). LeavesLog g.H.Host.now g.H.Host.may g.H.Host.clock g.H.Host.since g.H.Host.said g.H.Host.disk_faults g.H.Host.out_faults c.args.host.now h c.args.reservoir.now r)
    c.start_over.new.past.host.now _ c.start_over.new.past.reservoir.now _ (search rules) (search rules) went

pub returns-in-Err-clause-leaves : goal.returns-in-Err-clause-leaves
returns-in-Err-clause-leaves g c =
    let went = rw (c.new-past.ensures.reservoir, c.new-past.ensures.host) at c.start_over.ensures.leaves in
    moved (λ (h : g.row.H.Denot) (r : Reservoir). LeavesLog g.H.Host.now g.H.Host.may g.H.Host.clock g.H.Host.since g.H.Host.said g.H.Host.disk_faults g.H.Host.out_faults c.args.host.now h c.args.reservoir.now r)
    c.start_over.new.past.host.now _ c.start_over.new.past.reservoir.now _ (search rules) (search rules) went
