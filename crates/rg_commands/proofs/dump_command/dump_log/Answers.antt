use Rattle.std.proofs.Common.{Err, refl, ap, subst}
use Rattle.rg_dump.specs.declared.fault.DumpFault.{DumpFault}
use Rattle.rg_messages.specs.declared.status.Status.TheVariants.{Ok}
use Rattle.rg_commands.specs.Call.{ending_status, ending_line}
use Rattle.rg_commands.specs.Dumps.{ShowEnds, rows_of}
use Rattle.rg_commands.specs.Outcome.{host_outcome}
use Rattle.rg_commands.proofs.Ends.{up_to_all}
use Rattle.rg_commands.proofs.Showing.{dump_damaged, dump_stops, show_of}
use Rattle.rg_commands.proofs.dump_command.dump_log.Goals as goal

-- it came to its end

pub returns-in-Ok : goal.returns-in-Ok
returns-in-Ok g c = record {
  goes = record {
    put = λ image told. (rows_of image, refl, up_to_all (rows_of image) _ Ok (c.in-Ok.ensures.completes image told));
    damaged = λ e. absurd (cc e);
    why = (refl, c.in-Ok.ensures.undamaged);
    files = c.in-Ok.ensures.leaves;
    later = c.in-Ok.ensures.out_faults;
  };
}

-- it ended early

pub returns-in-Err : goal.returns-in-Err
returns-in-Err g c = record {
  goes =
      let h = host_outcome g.H.Host c.args.host.now c.dump.new.host in
      let row : (ok : Type 0) → ShowEnds ok h (ending_line c.ending_of.result) (ending_status c.ending_of.result) = λ ok. show_of ok h _ _ c.in-Err.fault c.ending_of.ensures
      (λ p is image told. (c.in-Err.ensures.damaged p (ap (λ (f : DumpFault). Err f) is) image told).0) (λ is. c.in-Err.ensures.disk (ap (λ (f : DumpFault). Err f) is)) (λ is. c.in-Err.ensures.write (ap (λ (f : DumpFault). Err f) is)) in
      record {
        put = λ image told.
            let s = c.in-Err.ensures.stops image told in
            (rows_of image, refl, record { put = s.0; puts = s.1; all = λ ok. absurd (subst (ShowEnds ⊥ h (ending_line c.ending_of.result)) ok (row ⊥)); stops = dump_stops c.in-Err.fault (ending_status c.ending_of.result) (ending_line c.ending_of.result) (rows_of image) s.0 c.ending_of.ensures s.2 });
        damaged = λ is image told.
            let d = dump_damaged c.in-Err.fault (ending_status c.ending_of.result) (ending_line c.ending_of.result) c.ending_of.ensures is in
            (c.in-Err.ensures.damaged d.0 (ap (λ (f : DumpFault). Err f) d.1) image told).1;
        why = row _;
        files = c.in-Err.ensures.leaves;
        later = c.in-Err.ensures.out_faults;
      };
}
