use Rattle.std.proofs.Common.{◌≡◌, Err, [], inr, refl, ap, sym, ◌∙◌, ⊎_elim, subst, arith}
use Rattle.rg_selftest.specs.Trials.{trial_lines}
use Rattle.rg_selftest.specs.declared.fault.PrintFault.{PrintFault}
use Rattle.rg_selftest.specs.declared.fault.PrintFault.TheVariants as fault
use Rattle.rg_messages.specs.declared.status.Status.TheVariants.{Ok, Memory, Write}
use Rattle.rg_commands.proofs.Ends.{up_to_all}
use Rattle.rg_commands.proofs.Unread.{none_up_to, idle_up_to, files_left}
use Rattle.rg_commands.proofs.self_command.print_trial.Goals as goal

-- the trial came to no numbers

pub returns-in-Err : goal.returns-in-Err
returns-in-Err g c = record {
  goes = record {
    text = [];
    is = refl;
    put = none_up_to g.H.Host g.met.H.Host.only_now g.met.H.Host.sinks c.args.host.now [] Memory (λ ok. absurd (let e : Memory ≡ Ok = ok in cc));
    why = refl;
    files = files_left g.H.Host g.met.H.Host.only_now g.met.H.Host.sinks c.args.host.now;
    later = omega arith;
  };
}

-- they were put

pub returns-in-Ok-print : goal.returns-in-Ok-print
returns-in-Ok-print g c = record {
  goes = record {
    text = trial_lines c.in-Ok.counted;
    is = (c.in-Ok.counted, c.in-Ok.ensures.counted, refl);
    put = up_to_all (trial_lines c.in-Ok.counted) _ Ok c.in-Ok-print.ensures.completes;
    why = refl;
    files = c.in-Ok-print.ensures.leaves;
    later = c.in-Ok-print.ensures.out_faults;
  };
}

-- they were not

pub returns-in-Err-Memory : goal.returns-in-Err-Memory
returns-in-Err-Memory g c = record {
  goes =
      let same = ⊎_elim (λ write. absurd (let e : fault.Memory ≡ fault.Write = sym c.in-Err-Memory.field-0-is ∙ write in cc)) (λ same. same) c.in-Err-Memory.ensures.stops in
      record {
        text = [];
        is = refl;
        put = idle_up_to g.H.Host g.met.H.Host.only_now g.met.H.Host.sinks c.args.host.now c.print.new.host same [] Memory (λ ok. absurd (let e : Memory ≡ Ok = ok in cc));
        why = refl;
        files = c.in-Err-Memory.ensures.leaves;
        later = c.in-Err-Memory.ensures.out_faults;
      };
}

pub returns-in-Err-Write : goal.returns-in-Err-Write
returns-in-Err-Write g c = record {
  goes =
      let is = ap (λ (f : PrintFault). Err f) c.in-Err-Write.field-0-is in
      let cut = c.in-Err-Write.ensures.cut is in
      record {
        text = trial_lines c.in-Ok.counted;
        is = (c.in-Ok.counted, c.in-Ok.ensures.counted, refl);
        put = record { put = cut.0; puts = cut.2; all = λ ok. absurd (let e : Write ≡ Ok = ok in cc); stops = inr (refl, cut.1) };
        why = (c.in-Err-Write.ensures.write is, refl);
        files = c.in-Err-Write.ensures.leaves;
        later = c.in-Err-Write.ensures.out_faults;
      };
}
