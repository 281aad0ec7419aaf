use Rattle.std.proofs.Common.{◌≡◌, None, ⊎_elim, inl, inr, refl, ap, rules}
use Rattle.rg_bytes.specs.Counts.{Rose}
use Rattle.rg_reservoir.specs.declared.reservoir.Reservoir.{Reservoir}
use Rattle.rg_recover.specs.Sessions.{Sitting}
use Rattle.rg_recover.specs.declared.fault.TaskFault.TheVariants.{Disk, Memory, Ended}
use Rattle.rg_recover.proofs.Causes.{same_fault, cause_at, storing_faults}
use Rattle.rg_recover.proofs.Nodes.{node_stored}
use Rattle.rg_recover.proofs.Placed.{placed_stored}
use Rattle.rg_recover.proofs.Ready.{ready_stepped}
use Rattle.rg_recover.proofs.Running.{runs_still}
use Rattle.rg_recover.proofs.Keeping.{keeps_still}
use Rattle.rg_recover.proofs.Sparing.{spared_still}
use Rattle.rg_recover.proofs.Stays.{slots_reach}
use Rattle.rg_reservoir.specs.Kept.{opened}
use Rattle.rg_open.specs.Stores.{store_of}
use Rattle.rg_recover.proofs.LogHeld.{step_log, still_log}
use Rattle.rg_recover.proofs.session.Session.commit.Goals as goal

pub commit_open-requires : goal.commit_open-requires
commit_open-requires g c =
    let reaches = rw (← c.self.view_is) at c.requires.reaches in
    record { can = record { some_room = c.self.invariant.some_room; few = c.self.invariant.few; fits = c.self.invariant.fits; going = c.self.invariant.reservoir_goes c.if-self.false; reaches = reaches c.if-self.false } }

pub returns-in-Ok-clause-within_step : goal.returns-in-Ok-clause-within_step
returns-in-Ok-clause-within_step g c = rw (← c.self.view_is) (λ plan keep runs. c.commit_open.ensures.stores.within plan keep runs.ready.in_step.reservoir)

pub returns-in-Ok-clause-stored : goal.returns-in-Ok-clause-stored
returns-in-Ok-clause-stored g c = rw (← c.self.view_is) (λ plan keep runs. c.in-Ok.ensures.stores.done.step plan keep runs.ready.in_step.reservoir)

pub returns-in-Ok-clause-events : goal.returns-in-Ok-clause-events
returns-in-Ok-clause-events g c = rw (← c.self.view_is) (λ plan runs. c.in-Ok.ensures.stores.done.events runs.ready.in_step.reservoir.sound)

pub returns-in-Ok-clause-running : goal.returns-in-Ok-clause-running
returns-in-Ok-clause-running g c = rw (← c.self.view_is) (λ plan runs.
    let h = c.args.host.now in
    let then = c.commit_open.new.host in
    let e = c.self.inside.engine in
    let s : Sitting g.row.T.Denot = record { reservoir = c.self.inside.reservoir; engine = e; texts = c.self.inside.texts; grace = c.self.inside.grace; slots = c.self.inside.slots; keep = c.self.inside.keep; saved = c.self.inside.saved; ended = c.self.inside.ended } in
    let new : Sitting g.row.T.Denot = record { reservoir = c.commit_open.new.reservoir; engine = e; texts = c.self.inside.texts; grace = c.self.inside.grace; slots = c.self.inside.slots; keep = c.self.inside.keep; saved = c.self.inside.saved; ended = c.self.inside.ended } in
    let log = runs.ready.in_step.reservoir in
    let stores = c.in-Ok.ensures.stores.done in
    let done = stores.step plan c.self.inside.keep log in
    runs_still plan (g.H.Host.now h) (g.H.Host.now then) (g.H.Host.may h) (g.H.Host.may then) g.T.Table.tells g.T.Table.cell g.T.Table.named g.T.Table.there s new done.more runs
    (ready_stepped plan (g.H.Host.now h) (g.H.Host.now then) (g.H.Host.may h) (g.H.Host.may then) (g.T.Table.tells e.table) (g.T.Table.cell e.table) c.self.inside.reservoir c.commit_open.new.reservoir e c.self.inside.texts runs.ready
    (stores.in_step plan (g.T.Table.cell e.table) e.spots c.self.inside.texts runs.ready.in_step))
    c.commit_open.ensures.keeps.log.limit refl c.if-self.false stores.slots (λ rows is. is)
    refl refl refl refl c.commit_open.ensures.keeps.log.more done.left)

pub returns-in-Ok-clause-node : goal.returns-in-Ok-clause-node
returns-in-Ok-clause-node g c = rw (← c.self.view_is) (λ plan n runs.
    let h = c.args.host.now in
    let then = c.commit_open.new.host in
    let e = c.self.inside.engine in
    let stores = c.in-Ok.ensures.stores.done in
    node_stored plan n (g.H.Host.now h) (g.H.Host.may h) (g.T.Table.tells e.table) (g.T.Table.cell e.table) c.self.inside.reservoir e runs (g.H.Host.now then) (g.H.Host.may then) c.commit_open.new.reservoir
    (stores.log plan runs.reservoir) (stores.events runs.reservoir.sound) (stores.spelled runs.reservoir.sound))

pub returns-in-Ok-clause-placed : goal.returns-in-Ok-clause-placed
returns-in-Ok-clause-placed g c = rw (← c.self.view_is) (λ plan placed.
    let h = c.args.host.now in
    let then = c.commit_open.new.host in
    let stores = c.in-Ok.ensures.stores.done in
    placed_stored plan (g.H.Host.now h) (g.H.Host.may h) c.self.inside.reservoir c.self.inside.engine placed (g.H.Host.now then) (g.H.Host.may then) c.commit_open.new.reservoir
    (stores.log plan placed.reservoir) (stores.spelled placed.reservoir.sound))

pub returns-in-Ok-clause-count : goal.returns-in-Ok-clause-count
returns-in-Ok-clause-count g c = rw (← c.self.view_is) c.commit_open.ensures.keeps.count

pub returns-in-Ok-clause-last : goal.returns-in-Ok-clause-last
returns-in-Ok-clause-last g c = rw (← c.self.view_is) c.commit_open.ensures.keeps.next

pub returns-in-Ok-clause-log : goal.returns-in-Ok-clause-log
returns-in-Ok-clause-log g c = rw (← c.self.view_is) (c.commit_open.ensures.keeps.log.view, c.commit_open.ensures.keeps.log.file)

pub returns-in-Ok-clause-rooms : goal.returns-in-Ok-clause-rooms
returns-in-Ok-clause-rooms g c = rw (← c.self.view_is) (c.commit_open.ensures.keeps.log.room, c.commit_open.ensures.keeps.log.cap, c.commit_open.ensures.keeps.log.limit)

pub returns-in-Ok-clause-reaches : goal.returns-in-Ok-clause-reaches
returns-in-Ok-clause-reaches g c = λ going. c.commit_open.ensures.keeps.reaches

pub returns-in-Ok-clause-said : goal.returns-in-Ok-clause-said
returns-in-Ok-clause-said g c = c.commit_open.ensures.keeps.log.said_stays

pub returns-in-Ok-clause-disk_faults : goal.returns-in-Ok-clause-disk_faults
returns-in-Ok-clause-disk_faults g c = c.commit_open.ensures.keeps.log.disk_faults_grow

pub returns-in-Ok-clause-out_faults : goal.returns-in-Ok-clause-out_faults
returns-in-Ok-clause-out_faults g c = c.commit_open.ensures.keeps.log.out_faults_stay

pub returns-in-Err-Memory-clause-within_step : goal.returns-in-Err-Memory-clause-within_step
returns-in-Err-Memory-clause-within_step g c = rw (← c.self.view_is) (λ plan keep runs. c.commit_open.ensures.stores.within plan keep runs.ready.in_step.reservoir)

pub returns-in-Err-Memory-clause-count : goal.returns-in-Err-Memory-clause-count
returns-in-Err-Memory-clause-count g c = rw (← c.self.view_is) c.commit_open.ensures.keeps.count

pub returns-in-Err-Memory-clause-last : goal.returns-in-Err-Memory-clause-last
returns-in-Err-Memory-clause-last g c = rw (← c.self.view_is) c.commit_open.ensures.keeps.next

pub returns-in-Err-Memory-clause-log : goal.returns-in-Err-Memory-clause-log
returns-in-Err-Memory-clause-log g c = rw (← c.self.view_is) (c.commit_open.ensures.keeps.log.view, c.commit_open.ensures.keeps.log.file)

pub returns-in-Err-Memory-clause-rooms : goal.returns-in-Err-Memory-clause-rooms
returns-in-Err-Memory-clause-rooms g c = rw (← c.self.view_is) (c.commit_open.ensures.keeps.log.room, c.commit_open.ensures.keeps.log.cap, c.commit_open.ensures.keeps.log.limit)

pub returns-in-Err-Memory-clause-reaches : goal.returns-in-Err-Memory-clause-reaches
returns-in-Err-Memory-clause-reaches g c = λ going. c.commit_open.ensures.keeps.reaches

pub returns-in-Err-Memory-clause-said : goal.returns-in-Err-Memory-clause-said
returns-in-Err-Memory-clause-said g c = c.commit_open.ensures.keeps.log.said_stays

pub returns-in-Err-Memory-clause-disk_faults : goal.returns-in-Err-Memory-clause-disk_faults
returns-in-Err-Memory-clause-disk_faults g c = c.commit_open.ensures.keeps.log.disk_faults_grow

pub returns-in-Err-Memory-clause-out_faults : goal.returns-in-Err-Memory-clause-out_faults
returns-in-Err-Memory-clause-out_faults g c = c.commit_open.ensures.keeps.log.out_faults_stay

pub returns-in-Err-clause-within_step : goal.returns-in-Err-clause-within_step
returns-in-Err-clause-within_step g c = rw (← c.self.view_is) (λ plan keep runs. c.commit_open.ensures.stores.within plan keep runs.ready.in_step.reservoir)

pub returns-in-Err-clause-count : goal.returns-in-Err-clause-count
returns-in-Err-clause-count g c = rw (← c.self.view_is) c.commit_open.ensures.keeps.count

pub returns-in-Err-clause-last : goal.returns-in-Err-clause-last
returns-in-Err-clause-last g c = rw (← c.self.view_is) c.commit_open.ensures.keeps.next

pub returns-in-Err-clause-log : goal.returns-in-Err-clause-log
returns-in-Err-clause-log g c = rw (← c.self.view_is) (c.commit_open.ensures.keeps.log.view, c.commit_open.ensures.keeps.log.file)

pub returns-in-Err-clause-rooms : goal.returns-in-Err-clause-rooms
returns-in-Err-clause-rooms g c = rw (← c.self.view_is) (c.commit_open.ensures.keeps.log.room, c.commit_open.ensures.keeps.log.cap, c.commit_open.ensures.keeps.log.limit)

pub returns-in-Err-clause-reaches : goal.returns-in-Err-clause-reaches
returns-in-Err-clause-reaches g c = λ going. c.commit_open.ensures.keeps.reaches

pub returns-in-Err-clause-said : goal.returns-in-Err-clause-said
returns-in-Err-clause-said g c = c.commit_open.ensures.keeps.log.said_stays

pub returns-in-Err-clause-disk_faults : goal.returns-in-Err-clause-disk_faults
returns-in-Err-clause-disk_faults g c = c.commit_open.ensures.keeps.log.disk_faults_grow

pub returns-in-Err-clause-out_faults : goal.returns-in-Err-clause-out_faults
returns-in-Err-clause-out_faults g c = c.commit_open.ensures.keeps.log.out_faults_stay

pub returns-in-Err-Memory-clause-memory : goal.returns-in-Err-Memory-clause-memory
returns-in-Err-Memory-clause-memory g c =
    let s = c.self.inside in
    let sitting : Reservoir → Sitting g.row.T.Denot = λ r. record { reservoir = r; engine = s.engine; texts = s.texts; grace = s.grace; slots = s.slots; keep = s.keep; saved = s.saved; ended = s.ended } in
    let Risen : Type 0 = Rose (g.H.Host.disk_faults c.args.host.now) (g.H.Host.disk_faults c.commit_open.new.host) in
    let Untouched : Type 0 = (c.commit_open.new.reservoir ≡ s.reservoir) × (c.commit_open.new.host ≡ c.args.host.now) in
    let same : Untouched = cause_at Risen Untouched c.in-Err-Memory.field-0 Memory c.in-Err-Memory.field-0-is c.in-Err-Memory.ensures.cause in
    rw (← c.self.view_is) (λ is. (ap sitting same.0, same.1))

pub returns-in-Err-clause-memory : goal.returns-in-Err-clause-memory
returns-in-Err-clause-memory g c = search rules

pub returns-in-Err-clause-disk : goal.returns-in-Err-clause-disk
returns-in-Err-clause-disk g c = λ is. cause_at _ _ c.in-Err.fault Disk (same_fault c.in-Err.fault _ is) c.in-Err.ensures.cause

pub returns-in-Err-clause-faults : goal.returns-in-Err-clause-faults
returns-in-Err-clause-faults g c = ⊎_elim (λ is. inl is) (λ is. inr (inl is)) (storing_faults _ _ c.in-Err.fault c.in-Err.ensures.cause)

pub returns-in-Err-clause-ended : goal.returns-in-Err-clause-ended
returns-in-Err-clause-ended g c = rw (← c.self.view_is) (
  λ is. absurd (cause_at _ _ c.in-Err.fault Ended (same_fault c.in-Err.fault _ is) c.in-Err.ensures.cause),
  λ ended. let goes = c.if-self.false in absurd cc,
)

pub returns-in-Err-clause-untouched : goal.returns-in-Err-clause-untouched
returns-in-Err-clause-untouched g c = λ is. absurd (cause_at _ _ c.in-Err.fault Ended (same_fault c.in-Err.fault _ is) c.in-Err.ensures.cause)

pub returns-in-Ok-clause-slots_stay : goal.returns-in-Ok-clause-slots_stay
returns-in-Ok-clause-slots_stay g c = c.in-Ok.ensures.stores.done.slots

pub returns-in-Ok-clause-slots_reach : goal.returns-in-Ok-clause-slots_reach
returns-in-Ok-clause-slots_reach g c = rw (← c.self.view_is) (λ reaches going.
    slots_reach c.self.inside.slots (g.H.Host.now c.args.host.now) (g.H.Host.now c.commit_open.new.host) (g.H.Host.may c.args.host.now) (g.H.Host.may c.commit_open.new.host) c.in-Ok.ensures.stores.done.slots reaches)

pub returns-in-Ok-clause-keeps : goal.returns-in-Ok-clause-keeps
returns-in-Ok-clause-keeps g c = rw (← c.self.view_is) (λ keeps.
    let h = c.args.host.now in
    let then = c.commit_open.new.host in
    let e = c.self.inside.engine in
    let s : Sitting g.row.T.Denot = record { reservoir = c.self.inside.reservoir; engine = e; texts = c.self.inside.texts; grace = c.self.inside.grace; slots = c.self.inside.slots; keep = c.self.inside.keep; saved = c.self.inside.saved; ended = c.self.inside.ended } in
    let new : Sitting g.row.T.Denot = record { reservoir = c.commit_open.new.reservoir; engine = e; texts = c.self.inside.texts; grace = c.self.inside.grace; slots = c.self.inside.slots; keep = c.self.inside.keep; saved = c.self.inside.saved; ended = c.self.inside.ended } in
    keeps_still (g.H.Host.now h) (g.H.Host.now then) (g.H.Host.may h) (g.H.Host.may then) g.T.Table.cell g.T.Table.named g.T.Table.there s new keeps
    c.in-Ok.ensures.stores.done.slots (λ rows is. is) refl refl refl refl c.commit_open.ensures.keeps.log.more)

pub returns-then-self-clause-spared : goal.returns-then-self-clause-spared
returns-then-self-clause-spared g c = λ slot below. spared_still g.H.Host.now g.H.Host.may g.H.Host.clock g.H.Host.since g.H.Host.said g.met.H.Host.only_now g.met.H.Host.sinks slot c.args.host.now

pub returns-in-Ok-clause-spared : goal.returns-in-Ok-clause-spared
returns-in-Ok-clause-spared g c = c.commit_open.ensures.stores.spared

pub returns-in-Err-Memory-clause-spared : goal.returns-in-Err-Memory-clause-spared
returns-in-Err-Memory-clause-spared g c = c.commit_open.ensures.stores.spared

pub returns-in-Err-clause-spared : goal.returns-in-Err-clause-spared
returns-in-Err-clause-spared g c = c.commit_open.ensures.stores.spared

-- over a legal log

pub returns-then-self-clause-log_stays : goal.returns-then-self-clause-log_stays
returns-then-self-clause-log_stays g c = λ plan log. still_log g.H.Host.now g.H.Host.may g.H.Host.clock g.H.Host.since g.H.Host.said g.met.H.Host.only_now g.met.H.Host.sinks (store_of plan) (opened c.args.self.now.reservoir) c.args.host.now

pub returns-in-Ok-clause-log_stays : goal.returns-in-Ok-clause-log_stays
returns-in-Ok-clause-log_stays g c = rw (← c.self.view_is) (λ plan log. step_log g.H.Host.now g.H.Host.may g.H.Host.clock g.H.Host.since g.H.Host.said (store_of plan) None (opened c.self.inside.reservoir) c.args.host.now c.commit_open.new.host (c.commit_open.ensures.stores.within plan None log))

pub returns-in-Err-Memory-clause-log_stays : goal.returns-in-Err-Memory-clause-log_stays
returns-in-Err-Memory-clause-log_stays g c = rw (← c.self.view_is) (λ plan log. step_log g.H.Host.now g.H.Host.may g.H.Host.clock g.H.Host.since g.H.Host.said (store_of plan) None (opened c.self.inside.reservoir) c.args.host.now c.commit_open.new.host (c.commit_open.ensures.stores.within plan None log))

pub returns-in-Err-clause-log_stays : goal.returns-in-Err-clause-log_stays
returns-in-Err-clause-log_stays g c = rw (← c.self.view_is) (λ plan log. step_log g.H.Host.now g.H.Host.may g.H.Host.clock g.H.Host.since g.H.Host.said (store_of plan) None (opened c.self.inside.reservoir) c.args.host.now c.commit_open.new.host (c.commit_open.ensures.stores.within plan None log))
