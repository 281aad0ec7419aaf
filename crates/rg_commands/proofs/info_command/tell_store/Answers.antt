use Rattle.std.proofs.Common.{Err, ap, refl, subst}
use Rattle.rg_host.specs.Puts.{Puts}
use Rattle.rg_info.specs.declared.fault.InfoFault.{InfoFault}
use Rattle.rg_dump.specs.declared.fault.DumpFault.TheVariants.{Disk, Damaged, Write}
use Rattle.rg_messages.specs.declared.status.Status.TheVariants.{Ok}
use Rattle.rg_commands.specs.Call.{ending_status, ending_line}
use Rattle.rg_commands.specs.Dumps.{ShowEnds}
use Rattle.rg_commands.specs.Outcome.{host_outcome}
use Rattle.rg_commands.proofs.Ends.{up_to_all}
use Rattle.rg_commands.proofs.Showing.{dump_damaged, show_of, of_info, info_is, info_ends, info_stops}
use Rattle.rg_commands.proofs.info_command.tell_store.Goals as goal

-- it came to its end

pub returns-in-Ok : goal.returns-in-Ok
returns-in-Ok g c = record {
  goes = record {
    put = λ image told. let t = c.in-Ok.ensures.completes image told in (t.0, t.1, up_to_all t.0 _ Ok t.2);
    damaged = λ e. absurd (cc e);
    why = (refl, c.in-Ok.ensures.undamaged);
    files = c.in-Ok.ensures.leaves;
    later = c.in-Ok.ensures.out_faults;
  };
}

-- it ended early

pub returns-in-Err : goal.returns-in-Err
returns-in-Err g c = record {
  goes =
      let h = host_outcome g.H.Host c.args.host.now c.info.new.host in
      let ends = info_ends c.in-Err.fault (ending_status c.ending_of.result) (ending_line c.ending_of.result) c.ending_of.ensures in
      let row : (ok : Type 0) → ShowEnds ok h (ending_line c.ending_of.result) (ending_status c.ending_of.result) = λ ok. show_of ok h _ _ (of_info c.in-Err.fault) ends
      (λ p is image told. (c.in-Err.ensures.damaged p (ap (λ (f : InfoFault). Err f) (info_is c.in-Err.fault (Damaged p) is))).0 image told)
      (λ is. c.in-Err.ensures.disk (ap (λ (f : InfoFault). Err f) (info_is c.in-Err.fault Disk is))) (λ is. c.in-Err.ensures.write (ap (λ (f : InfoFault). Err f) (info_is c.in-Err.fault Write is))) in
      record {
        put = λ image told.
            let s = info_stops c.in-Err.fault (ending_status c.ending_of.result) (ending_line c.ending_of.result) image (Puts g.H.Host.said g.H.Host.clock g.H.Host.since c.args.host.now c.info.new.host) c.ending_of.ensures
            (λ write. c.in-Err.ensures.cut (ap (λ (f : InfoFault). Err f) write) image told) c.in-Err.ensures.stops in
            (s.0, s.1, record { put = s.2.0; puts = s.2.1; all = λ ok. absurd (subst (ShowEnds ⊥ h (ending_line c.ending_of.result)) ok (row ⊥)); stops = s.2.2 });
        damaged = λ is image told.
            let d = dump_damaged (of_info c.in-Err.fault) (ending_status c.ending_of.result) (ending_line c.ending_of.result) ends is in
            (c.in-Err.ensures.damaged d.0 (ap (λ (f : InfoFault). Err f) (info_is c.in-Err.fault (Damaged d.0) d.1))).1;
        why = row _;
        files = c.in-Err.ensures.leaves;
        later = c.in-Err.ensures.out_faults;
      };
}
