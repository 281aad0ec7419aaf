use Rattle.std.proofs.Common.{◌∙◌, inl, List, ◌∷◌, Some, ap, sym, subst, arith, Err}
use Rattle.rg_event.specs.Shapes.{Shape}
use Rattle.rg_event.specs.declared.event.Event.{Event}
use Rattle.rg_frame.proofs.Laws.{payloads_one}
use Rattle.rg_config.specs.Plans.{planned}
use Rattle.rg_log.specs.Entries.{behind}
use Rattle.rg_log.specs.declared.summary.LogSummary.{LogSummary}
use Rattle.rg_log.proofs.Laws.{for_legal}
use Rattle.rg_host.specs.Image.{Image}
use Rattle.rg_reservoir.specs.Attached.{Opens, LogOpens}
use Rattle.rg_reservoir.specs.Kept.{base, next_of, time_of, all_events}
use Rattle.rg_reservoir.proofs.Laws.{quiet, not_bad, one_image}
use Rattle.rg_open.proofs.Blame.{list_opened}
use Rattle.rg_open.proofs.Attached.{openable_still, pending_stays, sized_left, held_left, reach_left, found_by}
use Rattle.rg_open.proofs.Causes.{log_damaged, log_differs, log_disk, log_neither, rose_last, slots_unread}
use Rattle.rg_open.proofs.Settles.{all-fewer, fewer-all_settled, writes-after}
use Rattle.rg_open.proofs.finding.find.Goals as goal

pub returns-in-Err-clause-refused : goal.returns-in-Err-clause-refused
returns-in-Err-clause-refused g c =
    slots_unread c.args.plan.now (g.H.Host.now c.args.host.now) (g.H.Host.may c.args.host.now) _ c.in-Err.fault c.in-Err.ensures.faults (λ is. c.in-Err.ensures.disk (ap (λ f. Err f) is))

pub returns-in-Err-clause-writes : goal.returns-in-Err-clause-writes
returns-in-Err-clause-writes g c =
    let left = c.read_slots.ensures.leaves in
    record {
      writes = quiet g.H.Host.now g.H.Host.may g.H.Host.clock g.H.Host.since g.H.Host.said c.args.plan.now.schema c.args.plan.now.defaults c.args.host.now c.read_slots.new.host left.leaves;
      disk_faults = left.disk_faults;
      out_faults = left.out_faults;
    }

pub returns-in-Ok-attach-clause-found : goal.returns-in-Ok-attach-clause-found
returns-in-Ok-attach-clause-found g c =
    let plan = planned c.args.plan.now in
    let h = c.args.host.now in
    let m = c.read_slots.new.host in
    let n = c.attach.new.host in
    let leaves = c.read_slots.ensures.leaves.leaves in
    let read = c.in-Ok.ensures.read in
    let r = c.in-Ok-attach.reservoir in
    let going = c.in-Ok-attach.ensures.going in
    let empty = c.in-Ok-attach.ensures.empty in
    let summary : LogSummary = record { count = (base r).committed; next = next_of r; time = time_of r } in
    let fewer = all-fewer g.H.Host.now g.H.Host.may g.H.Host.clock g.H.Host.since g.H.Host.said h m leaves in
    let still = fewer-all_settled g.H.Host.now g.H.Host.may g.H.Host.clock g.H.Host.since g.H.Host.said h m fewer c.requires.settled in
    record {
      found = λ openable.
          found_by plan c.fields-columns.ensures.legal (g.H.Host.now m) (g.H.Host.now n) (g.H.Host.may m) (g.H.Host.may n)
          (openable_still plan (g.H.Host.now h) (g.H.Host.now m) (g.H.Host.may h) (g.H.Host.may m) leaves.now_stays leaves.may_stays.no_more openable) still c.attach.ensures.writes.left r c.in-Ok.read.1 c.in-Ok-attach.ensures.sound
          (λ v told. read.are v (sym leaves.now_stays ∙ told)) (λ v told. g.met.H.Host.now_may m v told) going.0 going.1 going.2 empty.0;
      events = λ v events told has. ap (λ (l : List Event). all_events (g.H.Host.now n) (base r) l) (sym empty.0) ∙ (c.in-Ok-attach.ensures.sound v events (leaves.now_stays ∙ told) still.log has).1;
      log = λ v events told has. record { sound = (c.in-Ok-attach.ensures.sound v events (leaves.now_stays ∙ told) still.log has).0; going = going.0; file = going.1; shape = going.2 };
      settled = λ v told. record {
        log = c.in-Ok-attach.ensures.settled still.log;
        first = pending_stays 0 (LogOpens plan.shape plan.defaults) (g.H.Host.now m) (g.H.Host.now n) (g.H.Host.may m) (g.H.Host.may n) v (λ e. absurd (omega (arith, e))) (leaves.now_stays ∙ told) (λ w also. g.met.H.Host.now_may n w also) c.attach.ensures.writes.left still.first;
        second = pending_stays 1 (LogOpens plan.shape plan.defaults) (g.H.Host.now m) (g.H.Host.now n) (g.H.Host.may m) (g.H.Host.may n) v (λ e. absurd (omega (arith, e))) (leaves.now_stays ∙ told) (λ w also. g.met.H.Host.now_may n w also) c.attach.ensures.writes.left still.second;
      };
      sizes = λ v told. sized_left (LogOpens plan.shape plan.defaults) (g.H.Host.now m) (g.H.Host.may m) (g.H.Host.may n) v (leaves.now_stays ∙ told) still c.attach.ensures.writes.left c.in-Ok.read.0 (read.sized v told);
      slots_left = λ v told. held_left (LogOpens plan.shape plan.defaults) (g.H.Host.now m) (g.H.Host.may m) (g.H.Host.may n) v (leaves.now_stays ∙ told) still c.attach.ensures.writes.left c.in-Ok.read.1 (read.are v told);
      slots_are = read.are;
      slots_go = read.going;
      list = λ v payloads told has w also.
          let t = c.in-Ok-attach.ensures.opens.told v (leaves.now_stays ∙ told) in
          let opens : Opens plan.shape plan.defaults (base r).first (base r).end (v 2) (w 2) = subst (λ (u : Image). Opens plan.shape plan.defaults (base r).first (base r).end (v 2) (u 2)) (one_image (g.H.Host.now n) t.0 w t.1 also) t.2 in
          let o = c.in-Ok-attach.ensures.opened w also in
          list_opened plan (base r).first (base r).end (v 2) (w 2) o.start o.payloads o.has summary (o.say ∙ ap (λ (s : Shape). Some (behind s summary)) going.2) payloads opens has;
      listed = λ v told.
          let t = c.in-Ok-attach.ensures.opens.told v (leaves.now_stays ∙ told) in
          let o = c.in-Ok-attach.ensures.opened t.0 t.1 in
          (t.0, o.start ∷ o.payloads, t.1, o.has);
      whole = λ w also p bad.
          let o = c.in-Ok-attach.ensures.opened w also in
          not_bad (o.start ∷ o.payloads) (behind (base r).shape summary) p (w 2) o.has o.say bad;
      view = λ v told. c.in-Ok-attach.ensures.view v (leaves.now_stays ∙ told);
      fit = λ v told why. c.in-Ok-attach.ensures.exact v (leaves.now_stays ∙ told) why;
      going = going;
      empty = (empty.0, empty.1, empty.3);
      reaches = c.in-Ok-attach.ensures.reaches;
      slots_reach = reach_left (LogOpens plan.shape plan.defaults) (g.H.Host.now m) (g.H.Host.now n) (g.H.Host.may m) (g.H.Host.may n) c.in-Ok-attach.ensures.opens.untold (λ w also. g.met.H.Host.now_may n w also) still c.attach.ensures.writes.left c.in-Ok.read.0 read.reach;
    }

pub returns-in-Ok-attach-clause-writes : goal.returns-in-Ok-attach-clause-writes
returns-in-Ok-attach-clause-writes g c =
    let left = c.read_slots.ensures.leaves in
    let fewer = all-fewer g.H.Host.now g.H.Host.may g.H.Host.clock g.H.Host.since g.H.Host.said c.args.host.now c.read_slots.new.host left.leaves in
    record {
      writes = writes-after g.H.Host.now g.H.Host.may g.H.Host.clock g.H.Host.since g.H.Host.said 2 (LogOpens c.args.plan.now.schema c.args.plan.now.defaults) c.args.host.now c.read_slots.new.host c.attach.new.host (λ a b same. inl (inl same)) fewer c.attach.ensures.writes;
      disk_faults = omega (arith, left.disk_faults, c.attach.ensures.disk_faults);
      out_faults = c.attach.ensures.out_faults ∙ left.out_faults;
    }

pub reservoir_fault-requires : goal.reservoir_fault-requires
reservoir_fault-requires g c = record {
  full = λ is. c.in-Err-attach.ensures.neither.0 (ap (λ f. Err f) is);
  ended = λ is. c.in-Err-attach.ensures.neither.1 (ap (λ f. Err f) is);
}

pub returns-in-Err-attach-clause-refused : goal.returns-in-Err-attach-clause-refused
returns-in-Err-attach-clause-refused g c =
    let left = c.read_slots.ensures.leaves in
    let same = left.leaves.now_stays in
    let fault = c.in-Err-attach.fault in
    let shape = c.args.plan.now.schema in
    let defaults = c.args.plan.now.defaults in
    let legal = c.fields-columns.ensures.legal in
    let reads = g.met.H.Host.now_may c.args.host.now in
    record {
      disk = λ is. rose_last (g.H.Host.disk_faults c.args.host.now) (g.H.Host.disk_faults c.read_slots.new.host) (g.H.Host.disk_faults c.attach.new.host) left.disk_faults (c.in-Err-attach.ensures.disk (ap (λ f. Err f) (log_disk fault (sym c.reservoir_fault.ensures ∙ is))));
      damaged = λ p is v told. c.in-Err-attach.ensures.damaged p (ap (λ f. Err f) (log_damaged fault p (sym c.reservoir_fault.ensures ∙ is))) v (same ∙ told);
      undamaged = λ v events p told has is. c.in-Err-attach.ensures.legal v events p (same ∙ told) has (ap (λ f. Err f) (log_damaged fault p (sym c.reservoir_fault.ensures ∙ is)));
      never_damaged = λ p openable is.
          let v = openable.image in
          let has = for_legal payloads_one shape defaults (v 2) legal (openable.truthful v (reads v openable.told)).log openable.schema in
          c.in-Err-attach.ensures.legal v has.0 p (same ∙ openable.told) has.1 (ap (λ f. Err f) (log_damaged fault p (sym c.reservoir_fault.ensures ∙ is)));
      differs = λ is v told. c.in-Err-attach.ensures.differs (ap (λ f. Err f) (log_differs fault (sym c.reservoir_fault.ensures ∙ is))) v (same ∙ told);
      never_differs = λ openable is.
          let v = openable.image in
          let has = for_legal payloads_one shape defaults (v 2) legal (openable.truthful v (reads v openable.told)).log openable.schema in
          c.in-Err-attach.ensures.legal_ours v has.0 (same ∙ openable.told) has.1 (ap (λ f. Err f) (log_differs fault (sym c.reservoir_fault.ensures ∙ is)));
      no_state = λ n is. (log_neither fault).1 n (sym c.reservoir_fault.ensures ∙ is);
      no_table = λ is. (log_neither fault).0 (sym c.reservoir_fault.ensures ∙ is);
    }

pub returns-in-Err-attach-clause-writes : goal.returns-in-Err-attach-clause-writes
returns-in-Err-attach-clause-writes g c =
    let left = c.read_slots.ensures.leaves in
    let fewer = all-fewer g.H.Host.now g.H.Host.may g.H.Host.clock g.H.Host.since g.H.Host.said c.args.host.now c.read_slots.new.host left.leaves in
    record {
      writes = writes-after g.H.Host.now g.H.Host.may g.H.Host.clock g.H.Host.since g.H.Host.said 2 (LogOpens c.args.plan.now.schema c.args.plan.now.defaults) c.args.host.now c.read_slots.new.host c.attach.new.host (λ a b same. inl (inl same)) fewer c.attach.ensures.writes;
      disk_faults = omega (arith, left.disk_faults, c.attach.ensures.disk_faults);
      out_faults = c.attach.ensures.out_faults ∙ left.out_faults;
    }
