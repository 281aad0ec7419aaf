use Rattle.std.proofs.Common.{inl, refl}
use Rattle.rg_reservoir.proofs.Firsts.{added, log_begun}
use Rattle.rg_reservoir.proofs.first.begin_log.Goals as goal

pub returns-clause-opened : goal.returns-clause-opened
returns-clause-opened g c = λ defaults.
    log_begun g.H.Host.now g.H.Host.may g.H.Host.clock g.H.Host.since g.H.Host.said c.args.schema.now defaults _ _ c.args.log c.append.new.self c.args.ours.now c.new.result c.end-first.result c.new-2.result
    c.requires.legal c.requires.start c.requires.ours c.new.ensures c.end-first.ensures.end c.end-first.ensures.within.1 c.new-2.ensures c.in-Ok.ensures.ok c.in-Ok.ensures.appended c.in-Ok.ensures.pending c.append.ensures.reaches

pub returns-clause-writes : goal.returns-clause-writes
returns-clause-writes g c = λ defaults. record {
  writes = added g.H.Host.now g.H.Host.may g.H.Host.clock g.H.Host.since g.H.Host.said c.args.schema.now defaults _ _ c.args.log c.args.ours.now c.requires.start c.requires.ours c.append.ensures.leaves;
  disk_faults_rise = c.append.ensures.disk_faults;
  out_faults_stay = c.append.ensures.out_faults;
  untouched = tt;
}

-- it was refused

pub returns-in-Err-clause-opened : goal.returns-in-Err-clause-opened
returns-in-Err-clause-opened g c = λ defaults. record { opened = tt; view = tt; opens = tt; settled = tt; log = tt; reaches = tt }

pub returns-in-Err-clause-writes : goal.returns-in-Err-clause-writes
returns-in-Err-clause-writes g c = λ defaults. record {
  writes = added g.H.Host.now g.H.Host.may g.H.Host.clock g.H.Host.since g.H.Host.said c.args.schema.now defaults _ _ c.args.log c.args.ours.now c.requires.start c.requires.ours c.append.ensures.leaves;
  disk_faults_rise = c.append.ensures.disk_faults;
  out_faults_stay = c.append.ensures.out_faults;
  untouched = inl refl;
}
