use Rattle.std.proofs.Common.{false, None, List, Err, inl, ap, sym, refl, ◌∙◌, arith}
use Rattle.rg_metric.specs.declared.answer.Answer.{Answer}
use Rattle.rg_reservoir.specs.Kept.{opened}
use Rattle.rg_run_spec.specs.Verdicts.{Verdict, accepted_after, reply_of}
use Rattle.rg_open.specs.Stores.{store_of}
use Rattle.rg_recover.specs.Deciding.{as_verdict, answered_as}
use Rattle.rg_recover.specs.Sessions.{Sitting, events_of, stored_of}
use Rattle.rg_recover.proofs.Causes.{same_fault}
use Rattle.rg_recover.proofs.Lines.{decided, reply_accepted, after_accepted, has_answers}
use Rattle.rg_recover.proofs.Running.{runs_still}
use Rattle.rg_recover.proofs.Keeping.{keeps_still}
use Rattle.rg_recover.proofs.Stays.{slots_reach}
use Rattle.rg_recover.proofs.Within.{still_within, still_stored}
use Rattle.rg_recover.proofs.LogHeld.{step_log, still_log}
use Rattle.rg_recover.proofs.session.Session.line.Goals as goal

pub returns-in-Ok-Refused-clause-reply : goal.returns-in-Ok-Refused-clause-reply
returns-in-Ok-Refused-clause-reply g c = λ plan runs.
    let h = c.args.host.now in
    let s = c.args.self.now in
    ap (λ (v : Verdict). reply_of plan.queries (events_of (g.H.Host.now h) s) v) (sym (ap as_verdict c.in-Ok-Refused.field-0-is)
    ∙ decided plan (g.H.Host.now h) (g.H.Host.may h) g.T.Table.tells g.T.Table.cell g.T.Table.named g.T.Table.there s c.args.offset c.args.line.now (as_verdict c.in-Ok-Refused.field-0) runs c.in-Ok-Refused.ensures.says)

pub returns-in-Ok-Refused-clause-events : goal.returns-in-Ok-Refused-clause-events
returns-in-Ok-Refused-clause-events g c = λ plan runs.
    let h = c.args.host.now in
    let s = c.args.self.now in
    ap (λ (v : Verdict). accepted_after (events_of (g.H.Host.now h) s) v) (sym (ap as_verdict c.in-Ok-Refused.field-0-is)
    ∙ decided plan (g.H.Host.now h) (g.H.Host.may h) g.T.Table.tells g.T.Table.cell g.T.Table.named g.T.Table.there s c.args.offset c.args.line.now (as_verdict c.in-Ok-Refused.field-0) runs c.in-Ok-Refused.ensures.says)

pub returns-in-Ok-Refused-clause-within_step : goal.returns-in-Ok-Refused-clause-within_step
returns-in-Ok-Refused-clause-within_step g c = λ plan keep runs.
    still_within g.H.Host.now g.H.Host.may g.H.Host.clock g.H.Host.since g.H.Host.said g.met.H.Host.only_now g.met.H.Host.sinks (store_of plan) keep (opened c.args.self.now.reservoir) c.args.host.now

pub returns-in-Ok-Refused-clause-stored : goal.returns-in-Ok-Refused-clause-stored
returns-in-Ok-Refused-clause-stored g c = λ plan keep runs.
    still_stored g.H.Host.now g.H.Host.may g.H.Host.clock g.H.Host.since g.H.Host.said (store_of plan) keep (opened c.args.self.now.reservoir) (stored_of (g.H.Host.now c.args.host.now) c.args.self.now) c.args.host.now

pub returns-in-Err-clause-within_step : goal.returns-in-Err-clause-within_step
returns-in-Err-clause-within_step g c = λ plan keep runs.
    still_within g.H.Host.now g.H.Host.may g.H.Host.clock g.H.Host.since g.H.Host.said g.met.H.Host.only_now g.met.H.Host.sinks (store_of plan) keep (opened c.args.self.now.reservoir) c.args.host.now

pub take_in-requires : goal.take_in-requires
take_in-requires g c =
    let accepts = rw (c.in-Ok-Accepted.field-0-is) at c.in-Ok-Accepted.ensures.accepts in
    let follows = rw (← c.self.view_is) at accepts in
    let next = rw (← c.self.view_is) at c.requires.next in
    let reaches = rw (← c.self.view_is) at c.requires.reaches in
    record {
      can = record {
        log = record { some_room = c.self.invariant.some_room; few = c.self.invariant.few; fits = c.self.invariant.fits; going = c.self.invariant.reservoir_goes c.if-self.false; reaches = reaches c.if-self.false };
        fits = follows.fits;
        next = omega (arith, next, follows.placed);
        in_time = follows.in_time;
        below = follows.below;
        within = c.self.invariant.within;
        going = c.self.invariant.engine_goes c.if-self.false;
      };
    }

pub returns-in-Ok-clause-reply : goal.returns-in-Ok-clause-reply
returns-in-Ok-clause-reply g c =
    let says = rw (← c.self.view_is) at c.in-Ok-Accepted.ensures.says in
    rw (← c.self.view_is) (λ plan runs.
    let h = c.args.host.now in
    let e = c.self.inside.engine in
    let s : Sitting g.row.T.Denot = record { reservoir = c.self.inside.reservoir; engine = e; texts = c.self.inside.texts; grace = c.self.inside.grace; slots = c.self.inside.slots; keep = c.self.inside.keep; saved = c.self.inside.saved; ended = c.self.inside.ended } in
    c.reply_with.ensures ∙ ap (λ (l : List Answer). answered_as c.in-Ok-Accepted.is_moved l) (c.in-Ok.ensures.ready plan c.self.inside.texts runs.ready).answers
    ∙ reply_accepted plan.queries (events_of (g.H.Host.now h) s) c.in-Ok-Accepted.event c.in-Ok-Accepted.is_moved
    ∙ ap (λ (v : Verdict). reply_of plan.queries (events_of (g.H.Host.now h) s) v) (sym (ap as_verdict c.in-Ok-Accepted.field-0-is)
    ∙ decided plan (g.H.Host.now h) (g.H.Host.may h) g.T.Table.tells g.T.Table.cell g.T.Table.named g.T.Table.there s c.args.offset c.args.line.now (as_verdict c.in-Ok-Accepted.field-0) runs says))

pub returns-in-Ok-clause-events : goal.returns-in-Ok-clause-events
returns-in-Ok-clause-events g c =
    let says = rw (← c.self.view_is) at c.in-Ok-Accepted.ensures.says in
    rw (← c.self.view_is) (λ plan runs.
    let h = c.args.host.now in
    let e = c.self.inside.engine in
    let s : Sitting g.row.T.Denot = record { reservoir = c.self.inside.reservoir; engine = e; texts = c.self.inside.texts; grace = c.self.inside.grace; slots = c.self.inside.slots; keep = c.self.inside.keep; saved = c.self.inside.saved; ended = c.self.inside.ended } in
    (c.in-Ok.ensures.ready plan c.self.inside.texts runs.ready).events
    ∙ after_accepted (events_of (g.H.Host.now h) s) c.in-Ok-Accepted.event c.in-Ok-Accepted.is_moved
    ∙ ap (λ (v : Verdict). accepted_after (events_of (g.H.Host.now h) s) v) (sym (ap as_verdict c.in-Ok-Accepted.field-0-is)
    ∙ decided plan (g.H.Host.now h) (g.H.Host.may h) g.T.Table.tells g.T.Table.cell g.T.Table.named g.T.Table.there s c.args.offset c.args.line.now (as_verdict c.in-Ok-Accepted.field-0) runs says))

pub returns-in-Ok-clause-running : goal.returns-in-Ok-clause-running
returns-in-Ok-clause-running g c = rw (← c.self.view_is) (λ plan runs.
    let h = c.args.host.now in
    let then = c.take_in.new.host in
    let e = c.self.inside.engine in
    let f = c.take_in.new.engine in
    let s : Sitting g.row.T.Denot = record { reservoir = c.self.inside.reservoir; engine = e; texts = c.self.inside.texts; grace = c.self.inside.grace; slots = c.self.inside.slots; keep = c.self.inside.keep; saved = c.self.inside.saved; ended = c.self.inside.ended } in
    let new : Sitting g.row.T.Denot = record { reservoir = c.take_in.new.reservoir; engine = f; texts = c.self.inside.texts; grace = c.self.inside.grace; slots = c.self.inside.slots; keep = c.self.inside.keep; saved = c.self.inside.saved; ended = false } in
    let went = c.in-Ok.ensures.ready plan c.self.inside.texts runs.ready in
    let done = went.step c.self.inside.keep in
    runs_still plan (g.H.Host.now h) (g.H.Host.now then) (g.H.Host.may h) (g.H.Host.may then) g.T.Table.tells g.T.Table.cell g.T.Table.named g.T.Table.there s new done.more runs
    went.ready c.take_in.ensures.takes.log.limit refl refl c.in-Ok.ensures.takes.slots (c.take_in.ensures.takes.changed.since runs.ready.tells)
    refl refl refl refl c.take_in.ensures.takes.log.more done.left)

pub returns-in-Ok-clause-within_step : goal.returns-in-Ok-clause-within_step
returns-in-Ok-clause-within_step g c = rw (← c.self.view_is) (λ plan keep runs. (c.in-Ok.ensures.ready plan c.self.inside.texts runs.ready).within_step keep)

pub returns-in-Ok-clause-stored : goal.returns-in-Ok-clause-stored
returns-in-Ok-clause-stored g c = rw (← c.self.view_is) (λ plan keep runs. (c.in-Ok.ensures.ready plan c.self.inside.texts runs.ready).step keep)

pub returns-in-Err-take_in-clause-within_step : goal.returns-in-Err-take_in-clause-within_step
returns-in-Err-take_in-clause-within_step g c = rw (← c.self.view_is) (λ plan keep runs. (c.take_in.ensures.ready plan c.self.inside.texts runs.ready).within_step keep)

pub returns-in-Err-take_in-clause-never_bad : goal.returns-in-Err-take_in-clause-never_bad
returns-in-Err-take_in-clause-never_bad g c = rw (← c.self.view_is) (λ plan n runs is. (c.in-Err-take_in.ensures.ready plan c.self.inside.texts runs.ready).never_bad n (ap (λ v. Err v) (same_fault c.in-Err-take_in.fault _ is)))

pub returns-in-Err-take_in-clause-never_damaged : goal.returns-in-Err-take_in-clause-never_damaged
returns-in-Err-take_in-clause-never_damaged g c = rw (← c.self.view_is) (λ plan p runs is. (c.in-Err-take_in.ensures.ready plan c.self.inside.texts runs.ready).never_damaged p (ap (λ v. Err v) (same_fault c.in-Err-take_in.fault _ is)))

pub returns-in-Ok-clause-node : goal.returns-in-Ok-clause-node
returns-in-Ok-clause-node g c = rw (← c.self.view_is) (λ plan n runs. c.in-Ok.ensures.nodes.node plan n runs)

pub returns-in-Err-take_in-clause-never_bad_node : goal.returns-in-Err-take_in-clause-never_bad_node
returns-in-Err-take_in-clause-never_bad_node g c = rw (← c.self.view_is) (λ plan n runs is. c.in-Err-take_in.ensures.nodes.never_bad plan n runs (ap (λ v. Err v) (same_fault c.in-Err-take_in.fault _ is)))

pub returns-in-Ok-clause-placed : goal.returns-in-Ok-clause-placed
returns-in-Ok-clause-placed g c = rw (← c.self.view_is) (λ plan placed. c.in-Ok.ensures.nodes.placed plan placed)

pub returns-in-Err-take_in-clause-undamaged : goal.returns-in-Err-take_in-clause-undamaged
returns-in-Err-take_in-clause-undamaged g c = rw (← c.self.view_is) (λ plan p placed is. c.in-Err-take_in.ensures.nodes.undamaged plan p placed (ap (λ v. Err v) (same_fault c.in-Err-take_in.fault _ is)))

pub returns-in-Ok-clause-refused : goal.returns-in-Ok-clause-refused
returns-in-Ok-clause-refused g c = inl (has_answers c.in-Ok-Accepted.is_moved c.in-Ok.answers c.reply_with.result c.reply_with.ensures)

pub returns-in-Ok-Refused-clause-legal : goal.returns-in-Ok-Refused-clause-legal
returns-in-Ok-Refused-clause-legal g c =
    let refuses = rw c.in-Ok-Refused.field-0-is at c.in-Ok-Refused.ensures.accepts in
    λ room asks. (refuses, refl, refl)

pub returns-in-Ok-clause-legal : goal.returns-in-Ok-clause-legal
returns-in-Ok-clause-legal g c = rw (← c.self.view_is) (λ room asks. absurd (c.in-Ok.ensures.takes.legal room asks))

pub returns-in-Ok-clause-roomy : goal.returns-in-Ok-clause-roomy
returns-in-Ok-clause-roomy g c = rw (← c.self.view_is) c.take_in.ensures.takes.roomy

pub returns-in-Err-take_in-clause-roomy : goal.returns-in-Err-take_in-clause-roomy
returns-in-Err-take_in-clause-roomy g c = rw (← c.self.view_is) c.take_in.ensures.takes.roomy

pub returns-in-Err-take_in-clause-damaged : goal.returns-in-Err-take_in-clause-damaged
returns-in-Err-take_in-clause-damaged g c = λ p is. c.in-Err-take_in.ensures.takes.damaged p (ap (λ v. Err v) (same_fault c.in-Err-take_in.fault _ is))

pub returns-in-Err-take_in-clause-disk : goal.returns-in-Err-take_in-clause-disk
returns-in-Err-take_in-clause-disk g c = λ is. c.in-Err-take_in.ensures.takes.disk (ap (λ v. Err v) (same_fault c.in-Err-take_in.fault _ is))

pub returns-in-Err-take_in-clause-table : goal.returns-in-Err-take_in-clause-table
returns-in-Err-take_in-clause-table g c = rw (← c.self.view_is) (λ is. c.in-Err-take_in.ensures.takes.table (ap (λ v. Err v) (same_fault c.in-Err-take_in.fault _ is)))

pub returns-in-Err-take_in-clause-ended : goal.returns-in-Err-take_in-clause-ended
returns-in-Err-take_in-clause-ended g c = rw (← c.self.view_is) (
  λ is. absurd (c.in-Err-take_in.ensures.takes.not_ended (ap (λ v. Err v) (same_fault c.in-Err-take_in.fault _ is))),
  λ ended. let goes = c.if-self.false in absurd cc,
)

pub returns-in-Err-take_in-clause-untouched : goal.returns-in-Err-take_in-clause-untouched
returns-in-Err-take_in-clause-untouched g c = λ is. absurd (c.in-Err-take_in.ensures.takes.not_ended (ap (λ v. Err v) (same_fault c.in-Err-take_in.fault _ is)))

pub returns-in-Ok-clause-log : goal.returns-in-Ok-clause-log
returns-in-Ok-clause-log g c = rw (← c.self.view_is) (c.take_in.ensures.takes.log.view, c.take_in.ensures.takes.log.file)

pub returns-in-Err-take_in-clause-log : goal.returns-in-Err-take_in-clause-log
returns-in-Err-take_in-clause-log g c = rw (← c.self.view_is) (c.take_in.ensures.takes.log.view, c.take_in.ensures.takes.log.file)

pub returns-in-Ok-clause-rooms : goal.returns-in-Ok-clause-rooms
returns-in-Ok-clause-rooms g c = rw (← c.self.view_is) (c.take_in.ensures.takes.log.room, c.take_in.ensures.takes.log.cap, c.take_in.ensures.takes.log.limit)

pub returns-in-Err-take_in-clause-rooms : goal.returns-in-Err-take_in-clause-rooms
returns-in-Err-take_in-clause-rooms g c = rw (← c.self.view_is) (c.take_in.ensures.takes.log.room, c.take_in.ensures.takes.log.cap, c.take_in.ensures.takes.log.limit)

pub returns-in-Ok-clause-rows : goal.returns-in-Ok-clause-rows
returns-in-Ok-clause-rows g c = rw (← c.self.view_is) c.take_in.ensures.takes.rows

pub returns-in-Err-take_in-clause-rows : goal.returns-in-Err-take_in-clause-rows
returns-in-Err-take_in-clause-rows g c = rw (← c.self.view_is) c.take_in.ensures.takes.rows

pub returns-in-Ok-clause-reaches : goal.returns-in-Ok-clause-reaches
returns-in-Ok-clause-reaches g c = λ going. c.in-Ok.ensures.takes.reaches

pub returns-in-Ok-clause-said : goal.returns-in-Ok-clause-said
returns-in-Ok-clause-said g c = c.take_in.ensures.takes.log.said_stays

pub returns-in-Err-take_in-clause-said : goal.returns-in-Err-take_in-clause-said
returns-in-Err-take_in-clause-said g c = c.take_in.ensures.takes.log.said_stays

pub returns-in-Ok-clause-disk_faults : goal.returns-in-Ok-clause-disk_faults
returns-in-Ok-clause-disk_faults g c = c.take_in.ensures.takes.log.disk_faults_grow

pub returns-in-Err-take_in-clause-disk_faults : goal.returns-in-Err-take_in-clause-disk_faults
returns-in-Err-take_in-clause-disk_faults g c = c.take_in.ensures.takes.log.disk_faults_grow

pub returns-in-Ok-clause-out_faults : goal.returns-in-Ok-clause-out_faults
returns-in-Ok-clause-out_faults g c = c.take_in.ensures.takes.log.out_faults_stay

pub returns-in-Err-take_in-clause-out_faults : goal.returns-in-Err-take_in-clause-out_faults
returns-in-Err-take_in-clause-out_faults g c = c.take_in.ensures.takes.log.out_faults_stay

pub returns-in-Ok-clause-slots_reach : goal.returns-in-Ok-clause-slots_reach
returns-in-Ok-clause-slots_reach g c = rw (← c.self.view_is) (λ reaches going.
    slots_reach c.self.inside.slots (g.H.Host.now c.args.host.now) (g.H.Host.now c.take_in.new.host) (g.H.Host.may c.args.host.now) (g.H.Host.may c.take_in.new.host) c.in-Ok.ensures.takes.slots reaches)

pub returns-in-Ok-clause-keeps : goal.returns-in-Ok-clause-keeps
returns-in-Ok-clause-keeps g c = rw (← c.self.view_is) (λ told keeps.
    let h = c.args.host.now in
    let then = c.take_in.new.host in
    let e = c.self.inside.engine in
    let s : Sitting g.row.T.Denot = record { reservoir = c.self.inside.reservoir; engine = e; texts = c.self.inside.texts; grace = c.self.inside.grace; slots = c.self.inside.slots; keep = c.self.inside.keep; saved = c.self.inside.saved; ended = c.self.inside.ended } in
    let new : Sitting g.row.T.Denot = record { reservoir = c.take_in.new.reservoir; engine = c.take_in.new.engine; texts = c.self.inside.texts; grace = c.self.inside.grace; slots = c.self.inside.slots; keep = c.self.inside.keep; saved = c.self.inside.saved; ended = false } in
    keeps_still (g.H.Host.now h) (g.H.Host.now then) (g.H.Host.may h) (g.H.Host.may then) g.T.Table.cell g.T.Table.named g.T.Table.there s new keeps
    c.in-Ok.ensures.takes.slots (c.take_in.ensures.takes.changed.since told) refl refl refl refl c.take_in.ensures.takes.log.more)

-- over a legal log

pub returns-then-self-clause-log_stays : goal.returns-then-self-clause-log_stays
returns-then-self-clause-log_stays g c = λ plan log. still_log g.H.Host.now g.H.Host.may g.H.Host.clock g.H.Host.since g.H.Host.said g.met.H.Host.only_now g.met.H.Host.sinks (store_of plan) (opened c.args.self.now.reservoir) c.args.host.now

pub returns-in-Ok-Refused-clause-log_stays : goal.returns-in-Ok-Refused-clause-log_stays
returns-in-Ok-Refused-clause-log_stays g c = λ plan log. still_log g.H.Host.now g.H.Host.may g.H.Host.clock g.H.Host.since g.H.Host.said g.met.H.Host.only_now g.met.H.Host.sinks (store_of plan) (opened c.args.self.now.reservoir) c.args.host.now

pub returns-in-Err-clause-log_stays : goal.returns-in-Err-clause-log_stays
returns-in-Err-clause-log_stays g c = λ plan log. still_log g.H.Host.now g.H.Host.may g.H.Host.clock g.H.Host.since g.H.Host.said g.met.H.Host.only_now g.met.H.Host.sinks (store_of plan) (opened c.args.self.now.reservoir) c.args.host.now

pub returns-in-Ok-clause-log_stays : goal.returns-in-Ok-clause-log_stays
returns-in-Ok-clause-log_stays g c = rw (← c.self.view_is) (λ plan log. step_log g.H.Host.now g.H.Host.may g.H.Host.clock g.H.Host.since g.H.Host.said (store_of plan) None (opened c.self.inside.reservoir) c.args.host.now c.take_in.new.host (c.take_in.ensures.takes.within_step plan None log))

pub returns-in-Err-take_in-clause-log_stays : goal.returns-in-Err-take_in-clause-log_stays
returns-in-Err-take_in-clause-log_stays g c = rw (← c.self.view_is) (λ plan log. step_log g.H.Host.now g.H.Host.may g.H.Host.clock g.H.Host.since g.H.Host.said (store_of plan) None (opened c.self.inside.reservoir) c.args.host.now c.take_in.new.host (c.take_in.ensures.takes.within_step plan None log))
