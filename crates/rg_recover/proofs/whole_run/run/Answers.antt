use Rattle.std.proofs.Common.{inr, None, refl, ◌≡◌, ⊎_elim}
use Rattle.rg_config.specs.Plans.{planned}
use Rattle.rg_recover.specs.Ready.{begun_by}
use Rattle.rg_run.specs.declared.fault.RunFault.{RunFault}
use Rattle.rg_run.specs.declared.fault.RunFault.TheVariants as run
use Rattle.rg_recover.proofs.OpeningLog.{opening_log}
use Rattle.rg_recover.proofs.Runs.{none_moments, none_unopened}
use Rattle.rg_recover.proofs.TurnedAway.{none_alone, none_within}
use Rattle.rg_recover.proofs.whole_run.run.Goals as goal

pub returns-in-Err-clause-ran : goal.returns-in-Err-clause-ran
returns-in-Err-clause-ran g c = λ ready all left. (
  0,
  record {
    is_from = inr refl;
    moments = none_moments g.H.Host.now g.H.Host.may g.H.Host.clock g.H.Host.since g.H.Host.said (planned c.args.plan.now) g.met.H.Host.only_now g.met.H.Host.sinks c.args.host.now ready 0 c.args.first all;
    finished = tt;
    stopped = inr (inr (none_unopened g.H.Host.now g.H.Host.may g.H.Host.clock g.H.Host.since g.H.Host.said (planned c.args.plan.now) (begun_by ready 0 c.args.first all) c.args.host.now));
    answered = λ which. ⊎_elim (λ is. absurd (let e : ◌≡◌ {A = RunFault} run.Memory run.Read = is in cc)) (λ is. absurd (let e : ◌≡◌ {A = RunFault} run.Memory run.Limit = is in cc)) which;
  },
)

pub returns-in-Err-clause-behind : goal.returns-in-Err-clause-behind
returns-in-Err-clause-behind g c = λ store keep behind.
    (refl, none_within g.H.Host.may g.H.Host.clock g.H.Host.since g.H.Host.said g.met.H.Host.only_now g.met.H.Host.sinks (planned c.args.plan.now) keep store.openable.image c.args.host.now, tt)

pub returns-in-Err-clause-unfit : goal.returns-in-Err-clause-unfit
returns-in-Err-clause-unfit g c = λ v told unfit.
    (refl, none_alone g.H.Host.now g.H.Host.may g.H.Host.clock g.H.Host.since g.H.Host.said g.met.H.Host.now_may g.met.H.Host.only_now g.met.H.Host.sinks v c.args.host.now told, tt)

pub run_lines-ran-requires-clause-fresh : goal.run_lines-ran-requires-clause-fresh
run_lines-ran-requires-clause-fresh g c = record { pending = c.in-Ok.ensures.pending; taken = c.in-Ok.ensures.taken; spent = c.in-Ok.ensures.spent; still_open = c.in-Ok.ensures.ended }

pub returns-clause-ran : goal.returns-clause-ran
returns-clause-ran g c = c.run_lines-ran.ensures.whole.ready.ran

pub returns-clause-behind : goal.returns-clause-behind
returns-clause-behind g c = c.run_lines-ran.ensures.whole.ready.behind

pub returns-clause-never_bad : goal.returns-clause-never_bad
returns-clause-never_bad g c = c.run_lines-ran.ensures.whole.ready.never_bad

pub returns-clause-never_damaged : goal.returns-clause-never_damaged
returns-clause-never_damaged g c = c.run_lines-ran.ensures.whole.ready.never_damaged

pub returns-clause-never_differs : goal.returns-clause-never_differs
returns-clause-never_differs g c = c.run_lines-ran.ensures.whole.ready.never_differs

pub returns-clause-unfit : goal.returns-clause-unfit
returns-clause-unfit g c = c.run_lines-ran.ensures.whole.unfit.unfit

pub returns-clause-exact : goal.returns-clause-exact
returns-clause-exact g c = c.run_lines-ran.ensures.whole.unfit.exact

pub returns-clause-gap : goal.returns-clause-gap
returns-clause-gap g c = c.run_lines-ran.ensures.whole.cause.gap

pub returns-clause-gap_next : goal.returns-clause-gap_next
returns-clause-gap_next g c = c.run_lines-ran.ensures.whole.cause.gap_next

pub returns-clause-no_gap : goal.returns-clause-no_gap
returns-clause-no_gap g c = c.run_lines-ran.ensures.whole.cause.no_gap

pub returns-clause-differs : goal.returns-clause-differs
returns-clause-differs g c = c.run_lines-ran.ensures.whole.cause.differs

pub returns-clause-damaged : goal.returns-clause-damaged
returns-clause-damaged g c = c.run_lines-ran.ensures.whole.cause.damaged

pub returns-clause-bad : goal.returns-clause-bad
returns-clause-bad g c = c.run_lines-ran.ensures.whole.cause.bad

pub returns-clause-undamaged : goal.returns-clause-undamaged
returns-clause-undamaged g c = c.run_lines-ran.ensures.whole.cause.undamaged

pub returns-clause-at_end : goal.returns-clause-at_end
returns-clause-at_end g c = c.run_lines-ran.ensures.whole.cause.at_end

pub returns-clause-within : goal.returns-clause-within
returns-clause-within g c = c.run_lines-ran.ensures.whole.cause.within

pub returns-clause-read : goal.returns-clause-read
returns-clause-read g c = c.run_lines-ran.ensures.whole.cause.read

pub returns-clause-limit : goal.returns-clause-limit
returns-clause-limit g c = c.run_lines-ran.ensures.whole.cause.limit

pub returns-clause-write : goal.returns-clause-write
returns-clause-write g c = c.run_lines-ran.ensures.whole.cause.write

pub returns-clause-disk : goal.returns-clause-disk
returns-clause-disk g c = c.run_lines-ran.ensures.whole.cause.disk

pub returns-clause-store_first : goal.returns-clause-store_first
returns-clause-store_first g c = c.run_lines-ran.ensures.whole.cause.store_first

pub returns-clause-gap_first : goal.returns-clause-gap_first
returns-clause-gap_first g c = c.run_lines-ran.ensures.whole.cause.gap_first

pub returns-clause-later : goal.returns-clause-later
returns-clause-later g c = c.run_lines-ran.ensures.whole.counts.later

pub returns-clause-disk_faults : goal.returns-clause-disk_faults
returns-clause-disk_faults g c = c.run_lines-ran.ensures.whole.counts.disk_faults_grow

pub returns-clause-out_faults : goal.returns-clause-out_faults
returns-clause-out_faults g c = c.run_lines-ran.ensures.whole.counts.out_faults_grow

pub returns-in-Err-clause-log_stays : goal.returns-in-Err-clause-log_stays
returns-in-Err-clause-log_stays g c = λ v events told has.
    opening_log g.H.Host.may g.H.Host.clock g.H.Host.since g.H.Host.said (planned c.args.plan.now) None v events c.args.host.now c.args.host.now has
    (none_within g.H.Host.may g.H.Host.clock g.H.Host.since g.H.Host.said g.met.H.Host.only_now g.met.H.Host.sinks (planned c.args.plan.now) None v c.args.host.now)

pub returns-clause-log_stays : goal.returns-clause-log_stays
returns-clause-log_stays g c = c.run_lines-ran.ensures.whole.log
