use Rattle.std.proofs.Common.{sym, ◌∙◌}
use Rattle.rg_config.specs.Plans.{planned}
use Rattle.rg_recover.proofs.Openings.{open_disk, open_differs, open_damaged, open_bad, open_others}
use Rattle.rg_recover.proofs.TurnedAway.{why_open, gap_or_failed}
use Rattle.rg_recover.proofs.opening.open_session.Goals as goal

pub returns-in-Ok-clause-opened : goal.returns-in-Ok-clause-opened
returns-in-Ok-clause-opened g c = record {
  running = λ openable. c.in-Ok.ensures.running openable tt;
  is_from = λ v told openable. c.in-Ok.ensures.is_from v told openable;
  stepped = λ v keep told. c.in-Ok.ensures.stepped v keep told;
  events = λ v events told has. c.in-Ok.ensures.events v events told has;
  node = λ v events n told has. c.in-Ok.ensures.node v events n told has tt;
  placed = λ v events told has. c.in-Ok.ensures.placed v events told has;
  fit = λ v told unfit. c.in-Ok.ensures.exact v told unfit;
  going = c.in-Ok.ensures.going;
  reaches = c.in-Ok.ensures.reaches;
  slots_reach = c.in-Ok.ensures.slots_reach;
  view = c.in-Ok.ensures.view;
  log = c.in-Ok.ensures.log;
  numbers = (c.in-Ok.ensures.numbers.0, c.in-Ok.ensures.numbers.1);
}

pub returns-in-Err-clause-refused : goal.returns-in-Err-clause-refused
returns-in-Err-clause-refused g c =
    let is_of = c.opening_fault.ensures in
    let others = open_others c.in-Err.fault in
    record {
      over_ready = λ openable.
          gap_or_failed c.in-Err.fault c.opening_fault.result is_of (λ p is. c.in-Err.ensures.never_damaged p openable tt is) (λ is. c.in-Err.ensures.never_differs openable is) (λ n is. c.in-Err.ensures.never_bad n openable tt is);
      unfit = λ v told unfit. let at = c.in-Err.ensures.unfit v told unfit in (at.0, why_open (planned c.args.plan.now) v c.in-Err.fault c.opening_fault.result is_of at.1);
      bad = λ v events n told has is. c.in-Err.ensures.bad v events n told has tt (open_bad c.in-Err.fault n (sym is_of ∙ is));
      undamaged = λ v events p told has is. c.in-Err.ensures.undamaged v events p told has (open_damaged c.in-Err.fault p (sym is_of ∙ is));
      differs = λ is. c.in-Err.ensures.differs (open_differs c.in-Err.fault (sym is_of ∙ is));
      damaged = λ p is. c.in-Err.ensures.damaged p (open_damaged c.in-Err.fault p (sym is_of ∙ is));
      disk = λ is. c.in-Err.ensures.disk (open_disk c.in-Err.fault (sym is_of ∙ is));
      others = (λ is. others.0 (sym is_of ∙ is), λ is. others.1 (sym is_of ∙ is), λ is. others.2 (sym is_of ∙ is), λ n is. others.3 n (sym is_of ∙ is));
    }

pub returns-in-Ok-clause-only : goal.returns-in-Ok-clause-only
returns-in-Ok-clause-only g c = record { within = c.resume.ensures.within; disk_faults_grow = c.resume.ensures.disk_faults; out_faults_stay = c.resume.ensures.out_faults }

pub returns-in-Err-clause-only : goal.returns-in-Err-clause-only
returns-in-Err-clause-only g c = record { within = c.resume.ensures.within; disk_faults_grow = c.resume.ensures.disk_faults; out_faults_stay = c.resume.ensures.out_faults }
