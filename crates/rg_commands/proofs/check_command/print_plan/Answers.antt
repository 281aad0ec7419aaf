use Rattle.std.proofs.Common.{◌≡◌, Err, refl, ap, sym, ◌∙◌}
use Rattle.rg_messages.specs.declared.status.Status.TheVariants.{Ok, Memory, Write}
use Rattle.rg_explain.specs.declared.fault.CheckFault.{CheckFault}
use Rattle.rg_explain.specs.declared.fault.CheckFault.TheVariants as fault
use Rattle.rg_commands.proofs.Ends.{up_to_all, stops_for}
use Rattle.rg_commands.proofs.check_command.print_plan.Goals as goal

pub returns-in-Ok : goal.returns-in-Ok
returns-in-Ok g c = record {
  goes = record {
    put = up_to_all _ _ Ok c.in-Ok.ensures.completes;
    why = refl;
    files = c.in-Ok.ensures.leaves;
    later = c.in-Ok.ensures.later_out;
  };
}

pub returns-in-Err-Memory : goal.returns-in-Err-Memory
returns-in-Err-Memory g c = record {
  goes =
      let s = c.in-Err-Memory.ensures.stops in
      record {
        put = record {
          put = s.0;
          puts = s.1;
          all = λ ok. absurd (let e : Memory ≡ Ok = ok in cc);
          stops = stops_for (c.in-Err-Memory.field-0 ≡ fault.Write) (Memory ≡ Write) (λ e. absurd (let x : fault.Memory ≡ fault.Write = sym c.in-Err-Memory.field-0-is ∙ e in cc)) _ s.0 s.2;
        };
        why = refl;
        files = c.in-Err-Memory.ensures.leaves;
        later = c.in-Err-Memory.ensures.later_out;
      };
}

pub returns-in-Err-Write : goal.returns-in-Err-Write
returns-in-Err-Write g c = record {
  goes =
      let s = c.in-Err-Write.ensures.stops in
      record {
        put = record {
          put = s.0;
          puts = s.1;
          all = λ ok. absurd (let e : Write ≡ Ok = ok in cc);
          stops = stops_for (c.in-Err-Write.field-0 ≡ fault.Write) (Write ≡ Write) (λ e. refl) _ s.0 s.2;
        };
        why = (c.in-Err-Write.ensures.write (ap (λ (f : CheckFault). Err f) c.in-Err-Write.field-0-is), refl);
        files = c.in-Err-Write.ensures.leaves;
        later = c.in-Err-Write.ensures.later_out;
      };
}
