use Rattle.std.proofs.Common.{◌≡◌, ◌∙◌, ◌+◌, true, List, take, length, ap, sym, subst, arith}
use Rattle.rg_event.specs.declared.event.Event.{Event}
use Rattle.rg_past.specs.declared.past.PastFault.TheVariants as past
use Rattle.rg_config.specs.Plans.{planned}
use Rattle.rg_engine.specs.Passed.{passed_count}
use Rattle.rg_reservoir.specs.Kept.{Base, base, opened, all_events}
use Rattle.rg_reservoir.specs.GoingLaws.{all_long}
use Rattle.rg_restore.specs.NamingLaws.{sound_listed}
use Rattle.rg_restore.specs.Naming.{IsListed, HeadsName}
use Rattle.rg_restore.specs.Fit.{IsFit}
use Rattle.rg_restore.specs.Opening.{IsGoing}
use Rattle.rg_restore.specs.Slots.{slot_in, IsFrom}
use Rattle.rg_open.proofs.Causes.{bad_by, damaged_by, disk_by, never_differs, table_by}
use Rattle.rg_open.proofs.Found.{none_still, from_heads, are_truthful, kept_by, started}
use Rattle.rg_open.proofs.Logs.{can_stand, last_is}
use Rattle.rg_open.proofs.Blame.{amiss_by, runs_by}
use Rattle.rg_open.proofs.starting.start_over.Goals as goal

pub resume-requires-clause-ready : goal.resume-requires-clause-ready
resume-requires-clause-ready g c = (c.requires.start.none, c.requires.start.going)

pub resume-requires-clause-empty : goal.resume-requires-clause-empty
resume-requires-clause-empty g c = c.requires.start.empty

pub engine_fault-requires : goal.engine_fault-requires
engine_fault-requires g c =
    let runs : (base c.args.past.now.reservoir.now).ended ≡ true → ⊥ = λ e. (let x = sym e ∙ c.requires.start.going in cc) in
    record {
      full = λ is. c.in-Err.ensures.cause past.Full is;
      over = λ is. runs (c.in-Err.ensures.cause past.Ended is);
      ended = c.in-Err.ensures.not_ended;
    }

pub returns-in-Ok-clause-started : goal.returns-in-Ok-clause-started
returns-in-Ok-clause-started g c =
    let given = c.args.plan.now in
    let plan = planned given in
    let p = c.args.past.now in
    let q = c.resume.new.past in
    let now = g.H.Host.now p.host.now in
    let may = g.H.Host.may p.host.now in
    let then = g.H.Host.now q.host.now in
    let after = g.H.Host.may q.host.now in
    let r = p.reservoir.now in
    let s = q.reservoir.now in
    let to = c.requires.start in
    let runs : (base r).ended ≡ true → ⊥ = λ e. (let x = sym e ∙ to.going in cc) in
    let goes = c.resume.ensures.past.goes in
    let tasks_are = to.task ∙ c.requires.start.read.task in
    let tells = g.T.Table.tells c.args.table in
    let engine = c.in-Ok.started.0 in
    let origin = c.in-Ok.started.1 in
    let cells = g.T.Table.cell engine.table in
    let none = none_still now then r s goes.base to.none c.resume.ensures.events in
    let reads = g.met.H.Host.now_may p.host.now in
    let all : List Event = all_events now (base r) (opened r) in
    let is_from : IsListed now → IsFrom (IsFit (HeadsName now (base r)) given.queries given.schema.fields c.args.task (base r).committed) (slot_in c.args.saved) origin.slot origin.from = λ listed.
    from_heads now (base r) (opened r) given.queries c.fields.result.now given.schema.fields c.args.task (length all) (slot_in c.args.saved) origin.slot origin.from
    to.none to.going c.fields.ensures.columns (omega (arith, all_long now (base r) (opened r), ap length to.none)) (c.in-Ok.ensures.from listed) in
    record {
      started = λ found told.
          let truthful = are_truthful plan now may r c.args.saved found c.args.task tasks_are given.queries c.requires.start.read.printed reads c.requires.start.read.said in
          let stands = c.in-Ok.ensures.stands (can_stand plan now may r found.reservoir found.empty c.args.task tasks_are tells c.requires.start.read.legal told) runs
          (last_is plan now may r found.reservoir found.empty c.last_of-last.result c.last_of-last.ensures.some c.last_of-last.ensures.none) truthful in
          started plan now may r c.args.saved found c.args.task tasks_are then after s goes.base none (goes.sound found.reservoir.sound) goes.leaves.may_stays.no_more
          (g.T.Table.tells engine.table) cells engine given.queries origin.slot origin.from c.requires.start.read.printed c.requires.start.read.said c.requires.start.read.legal
          (c.in-Ok.ensures.table.tells.1 told) c.in-Ok.ensures.engine.plan_is stands
          (kept_by plan now may r c.args.saved found c.args.task tasks_are after goes.leaves.may_stays.no_more (HeadsName now (base r)) given.queries given.schema.fields (base r).committed c.requires.start.read.printed origin.slot origin.from
          (is_from (sound_listed now may r reads found.reservoir.sound)));
      passed = λ found.
          let truthful = are_truthful plan now may r c.args.saved found c.args.task tasks_are given.queries c.requires.start.read.printed reads c.requires.start.read.said in
          c.in-Ok.ensures.passed found.reservoir.sound runs (last_is plan now may r found.reservoir found.empty c.last_of-last.result c.last_of-last.ensures.some c.last_of-last.ensures.none) truthful
          ∙ ap (λ (l : List Event). c.args.steps.now + passed_count c.args.task (take origin.from all) l) c.resume.ensures.events
          ∙ ap (λ (o : List Event). c.args.steps.now + passed_count c.args.task (take origin.from (all_events now (base r) o)) (all_events now (base r) o)) to.none;
      is_from = is_from;
      ticks = c.in-Ok.ensures.ticks;
      node = λ n log told not.
          let blame = c.in-Ok.ensures.node n (can_stand plan now may r log to.none c.args.task tasks_are tells c.requires.start.read.legal told) runs
          (last_is plan now may r log to.none c.last_of-last.result c.last_of-last.ensures.some c.last_of-last.ensures.none)
          (λ goes_on. not (runs_by plan now may r log c.args.task tasks_are then after s goes.base (goes.sound log.sound) n (g.T.Table.tells engine.table) cells engine
          c.requires.start.read.legal (c.in-Ok.ensures.table.tells.1 told) c.in-Ok.ensures.engine.plan_is goes_on)) in
          amiss_by plan now may r log given.queries c.fields.result.now c.args.task c.args.saved n blame.0 blame.1 c.requires.start.read.printed c.fields.ensures.columns tasks_are blame.2 blame.3;
      placed = λ log. record {
        reservoir = record {
          sound = goes.sound log.sound;
          going = ap (λ (b : Base). b.ended) goes.base ∙ log.going;
          file = ap (λ (b : Base). b.file) goes.base ∙ log.file;
          shape = ap (λ (b : Base). b.shape) goes.base ∙ log.shape;
        };
        spots = c.in-Ok.ensures.spelled log.sound runs;
      };
      engine_goes = subst (λ n. IsGoing c.args.task n engine) (omega (arith, all_long then (base s) (opened s), ap length none)) c.in-Ok.ensures.engine;
      since = c.in-Ok.ensures.since;
      table_kept = c.in-Ok.ensures.table;
    }

pub returns-in-Ok-clause-leaves : goal.returns-in-Ok-clause-leaves
returns-in-Ok-clause-leaves g c =
    let p = c.args.past.now in
    let q = c.resume.new.past in
    let goes = c.resume.ensures.past.goes in
    record {
      based = goes.base;
      room = goes.room;
      cap = goes.cap;
      empty = none_still (g.H.Host.now p.host.now) (g.H.Host.now q.host.now) p.reservoir.now q.reservoir.now goes.base c.requires.start.none c.resume.ensures.events;
      sound = goes.sound;
      leaves = goes.leaves;
      disk_faults = c.resume.ensures.past.later;
      out_faults = goes.outs_stay;
    }

pub returns-in-Err-clause-refused : goal.returns-in-Err-clause-refused
returns-in-Err-clause-refused g c =
    let given = c.args.plan.now in
    let plan = planned given in
    let p = c.args.past.now in
    let now = g.H.Host.now p.host.now in
    let may = g.H.Host.may p.host.now in
    let r = p.reservoir.now in
    let to = c.requires.start in
    let fault = c.in-Err.fault in
    let runs : (base r).ended ≡ true → ⊥ = λ e. (let x = sym e ∙ to.going in cc) in
    let tasks_are = to.task ∙ c.requires.start.read.task in
    let tells = g.T.Table.tells c.args.table in
    record {
      disk = λ is. c.in-Err.ensures.cause past.Disk (disk_by fault (sym c.engine_fault.ensures ∙ is));
      damaged = λ n is. c.in-Err.ensures.cause (past.Damaged n) (damaged_by fault n (sym c.engine_fault.ensures ∙ is));
      undamaged = λ n sound is. c.in-Err.ensures.never_damaged n sound runs (damaged_by fault n (sym c.engine_fault.ensures ∙ is));
      same_schema = λ is. never_differs fault (sym c.engine_fault.ensures ∙ is);
      bad = λ n log told is.
          let blame = c.in-Err.ensures.bad n (can_stand plan now may r log to.none c.args.task tasks_are tells c.requires.start.read.legal told) runs (bad_by fault n (sym c.engine_fault.ensures ∙ is)) in
          amiss_by plan now may r log given.queries c.fields.result.now c.args.task c.args.saved n blame.0 blame.1 c.requires.start.read.printed c.fields.ensures.columns tasks_are blame.2 blame.3;
      never_bad = λ n found told is.
          c.in-Err.ensures.never_bad n (can_stand plan now may r found.reservoir found.empty c.args.task tasks_are tells c.requires.start.read.legal told) runs
          (are_truthful plan now may r c.args.saved found c.args.task tasks_are given.queries c.requires.start.read.printed (g.met.H.Host.now_may p.host.now) c.requires.start.read.said) (bad_by fault n (sym c.engine_fault.ensures ∙ is));
      table_disk = λ is. c.in-Err.ensures.disk (table_by fault (sym c.engine_fault.ensures ∙ is));
      table_kept = c.in-Err.ensures.back;
    }

pub returns-in-Err-clause-leaves : goal.returns-in-Err-clause-leaves
returns-in-Err-clause-leaves g c =
    let p = c.args.past.now in
    let q = c.resume.new.past in
    let goes = c.resume.ensures.past.goes in
    record {
      based = goes.base;
      room = goes.room;
      cap = goes.cap;
      empty = none_still (g.H.Host.now p.host.now) (g.H.Host.now q.host.now) p.reservoir.now q.reservoir.now goes.base c.requires.start.none c.resume.ensures.events;
      sound = goes.sound;
      leaves = goes.leaves;
      disk_faults = c.resume.ensures.past.later;
      out_faults = goes.outs_stay;
    }
