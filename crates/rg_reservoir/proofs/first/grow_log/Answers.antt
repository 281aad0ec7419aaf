use Rattle.std.proofs.Common.{rules, inl, refl}
use Rattle.rg_reservoir.proofs.Firsts.{grown, log_grown, opening_none}
use Rattle.rg_reservoir.proofs.Legal.{is_foreign}
use Rattle.rg_reservoir.proofs.first.grow_log.Goals as goal

pub returns-clause-opened : goal.returns-clause-opened
returns-clause-opened g c =
    log_grown g.H.Host.now g.H.Host.may g.H.Host.clock g.H.Host.since g.H.Host.said c.args.schema.now c.args.defaults.now _ _ c.args.log c.append.new.self c.args.read c.end.result c.in-Ok-Some.to_write c.deref.result.now c.push.new.self c.behind-first.result
    c.requires.read (rw c.in-Ok-Some.field-0-is at c.in-Ok-Some.ensures.some) c.end.ensures.end c.deref.ensures.value c.in-Ok.ensures c.behind-first.ensures c.in-Ok-append.ensures.ok c.in-Ok-append.ensures.appended c.in-Ok-append.ensures.pending c.append.ensures.reaches

pub returns-clause-writes : goal.returns-clause-writes
returns-clause-writes g c = record {
  writes =
      grown g.H.Host.now g.H.Host.may g.H.Host.clock g.H.Host.since g.H.Host.said c.args.schema.now c.args.defaults.now _ _ c.args.log c.args.read c.end.result c.in-Ok-Some.to_write c.deref.result.now
      c.requires.read (rw c.in-Ok-Some.field-0-is at c.in-Ok-Some.ensures.some) c.deref.ensures.value c.append.ensures.leaves;
  disk_faults_rise = c.append.ensures.disk_faults;
  out_faults_stay = c.append.ensures.out_faults;
  untouched = tt;
}

-- the write failed

pub returns-in-Err-append-clause-writes : goal.returns-in-Err-append-clause-writes
returns-in-Err-append-clause-writes g c = record {
  writes =
      grown g.H.Host.now g.H.Host.may g.H.Host.clock g.H.Host.since g.H.Host.said c.args.schema.now c.args.defaults.now _ _ c.args.log c.args.read c.end.result c.in-Ok-Some.to_write c.deref.result.now
      c.requires.read (rw c.in-Ok-Some.field-0-is at c.in-Ok-Some.ensures.some) c.deref.ensures.value c.append.ensures.leaves;
  disk_faults_rise = c.append.ensures.disk_faults;
  out_faults_stay = c.append.ensures.out_faults;
  untouched = inl refl;
}

-- it doesn't grow to that schema

pub returns-in-Ok-None-clause-stops : goal.returns-in-Ok-None-clause-stops
returns-in-Ok-None-clause-stops g c = record {
  differs = λ e v told.
      let r = c.requires.read.has_read v told in
      is_foreign c.args.schema.now c.args.defaults.now r.start r.payloads c.args.read.so_far (v 2) r.has r.say c.requires.other (rw c.in-Ok-None.field-0-is at c.in-Ok-None.ensures.none);
  damaged = search rules;
  neither = search rules;
  disk = search rules;
}

pub returns-in-Ok-None-clause-writes : goal.returns-in-Ok-None-clause-writes
returns-in-Ok-None-clause-writes g c =
    opening_none g.H.Host.now g.H.Host.may g.H.Host.clock g.H.Host.since g.H.Host.said c.args.schema.now c.args.defaults.now g.H.Host.disk_faults g.H.Host.out_faults _ c.args.host.now (g.met.H.Host.sinks c.args.host.now) (g.met.H.Host.only_now c.args.host.now)

-- memory ran out

pub returns-in-Err-clause-writes : goal.returns-in-Err-clause-writes
returns-in-Err-clause-writes g c =
    opening_none g.H.Host.now g.H.Host.may g.H.Host.clock g.H.Host.since g.H.Host.said c.args.schema.now c.args.defaults.now g.H.Host.disk_faults g.H.Host.out_faults _ c.args.host.now (g.met.H.Host.sinks c.args.host.now) (g.met.H.Host.only_now c.args.host.now)

pub returns-in-Err-push-clause-writes : goal.returns-in-Err-push-clause-writes
returns-in-Err-push-clause-writes g c =
    opening_none g.H.Host.now g.H.Host.may g.H.Host.clock g.H.Host.since g.H.Host.said c.args.schema.now c.args.defaults.now g.H.Host.disk_faults g.H.Host.out_faults _ c.args.host.now (g.met.H.Host.sinks c.args.host.now) (g.met.H.Host.only_now c.args.host.now)
