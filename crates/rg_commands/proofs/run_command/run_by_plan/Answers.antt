use Rattle.std.proofs.Common.{◌≡◌, Err, Some, [], refl, inl, inr, ⊎_elim, ap, arith}
use Rattle.rg_config.specs.Plans.{planned}
use Rattle.rg_run.specs.declared.fault.RunFault.{RunFault}
use Rattle.rg_messages.specs.declared.status.Status.TheVariants.{Ok, Usage, Plan as BadPlan, Store, Read, Write, Disk, Limit, Gap, Differs}
use Rattle.rg_commands.specs.declared.command.Command.TheVariants.{Run}
use Rattle.rg_commands.specs.Call.{ending_status, ending_line}
use Rattle.rg_commands.specs.Outcome.{source_outcome, host_outcome, outcome}
use Rattle.rg_commands.proofs.Plans.{legal_of}
use Rattle.rg_commands.proofs.Refusing.{run_at}
use Rattle.rg_commands.proofs.Carrying.{went_ok, went_err, store_line, never_store, row_cause, gone_alone}
use Rattle.rg_commands.proofs.TurnedAway.{ends_unfit, ends_behind}
use Rattle.rg_commands.proofs.Unread.{unread_cause, files_left}
use Rattle.rg_commands.proofs.run_command.run_by_plan.Goals as goal

-- the plan was not taken

pub returns-in-Err-clause-goes : goal.returns-in-Err-clause-goes
returns-in-Err-clause-goes g c = inl (c.in-Err.ensures.unread, record { host = refl; input = refl })

pub returns-in-Err-clause-ends : goal.returns-in-Err-clause-ends
returns-in-Err-clause-ends g c =
    let files = files_left g.H.Host g.met.H.Host.only_now g.met.H.Host.sinks c.args.host.now in
    record {
      why = unread_cause (source_outcome g.P.Source c.args.plan.now c.load_plan.new.plan) _ _ _ c.in-Err.ensures.unread (Some (Run c.args.first)) (source_outcome g.I.Source c.args.input.now c.args.input.now)
          (host_outcome g.H.Host c.args.host.now c.args.host.now) tt;
      alone = record {
        plan_unread = λ unread. absurd (unread tt);
        input_unread = λ no_run. refl;
        plan_first = λ why. refl;
        read_first = λ is. inl (refl, files);
        files_stay = λ why. files;
      };
      later = omega arith;
    }

-- the run went to its end

pub returns-in-Ok-done-clause-goes : goal.returns-in-Ok-done-clause-goes
returns-in-Ok-done-clause-goes g c = inr (
  planned c.in-Ok.asked,
  c.in-Ok.ensures.legal,
  record {
    went = λ ready all left.
        let ran = c.in-Ok-done.ensures.ran ready all left in
        (ran.0, went_ok g.H.Host _ _ _ _ _ _ ran.1.is_from ran.1.moments ran.1.finished (c.in-Ok-done.ensures.no_gap ready.openable.image ready.held ready.openable.told ready.has));
    never_damaged = λ openable is. absurd (let e : Ok ≡ Store = is in cc);
    behind = λ store keep late. absurd (omega (arith, late, c.in-Ok-done.ensures.no_gap store.openable.image store.held store.openable.told store.has));
    unfit = λ v now unfit. absurd (c.in-Ok-done.ensures.exact v now unfit);
    no_gap = λ ok v events now has. c.in-Ok-done.ensures.no_gap v events now has;
    gap = λ is. absurd (let e : Ok ≡ Gap = is in cc);
    log = c.in-Ok-done.ensures.log_stays;
    at_end = λ ok. c.in-Ok-done.ensures.at_end;
  },
)

pub returns-in-Ok-done-clause-ends : goal.returns-in-Ok-done-clause-ends
returns-in-Ok-done-clause-ends g c = record {
  why = ((λ reads. legal_of _ (planned c.in-Ok.asked) c.in-Ok.ensures.legal), (λ runs. c.in-Ok-done.ensures.within), (λ shows. absurd shows));
  alone = gone_alone c.args.first _ _ _ _ (planned c.in-Ok.asked) c.in-Ok.ensures.legal (λ is. absurd (let e : Ok ≡ BadPlan = is in cc)) (λ is. absurd (let e : Ok ≡ Read = is in cc));
  later = c.in-Ok-done.ensures.out_faults;
}

-- the run ended early

pub returns-clause-goes : goal.returns-clause-goes
returns-clause-goes g c =
    let fault = c.in-Err-done.fault in
    let status = ending_status c.ending_of.result in
    let last = ending_line c.ending_of.result in
    let ends = c.ending_of.ensures in
    inr (
      planned c.in-Ok.asked,
      c.in-Ok.ensures.legal,
      record {
        went = λ ready all left.
            let ran = c.in-Err-done.ensures.ran ready all left in (
              ran.0,
              went_err g.H.Host _ _ _ _ _ _ fault status last ends ran.1.is_from ran.1.moments ran.1.stopped ran.1.answered
                  (λ is. c.in-Err-done.ensures.never_differs ready.openable (ap (λ (f : RunFault). Err f) is))
                  (λ n is. c.in-Err-done.ensures.never_bad ready.openable n (ap (λ (f : RunFault). Err f) is))
                  (λ n is. c.in-Err-done.ensures.gap_next ready.openable.image ready.held n ready.openable.told ready.has (ap (λ (f : RunFault). Err f) is)),
            );
        never_damaged = λ openable is. never_store _ fault status last ends is
            (λ e. c.in-Err-done.ensures.never_differs openable (ap (λ (f : RunFault). Err f) e))
            (λ n e. c.in-Err-done.ensures.never_bad openable n (ap (λ (f : RunFault). Err f) e))
            (λ p e. c.in-Err-done.ensures.never_damaged openable p (ap (λ (f : RunFault). Err f) e));
        behind = λ store keep late.
            let at = c.in-Err-done.ensures.behind store keep late in
            (at.0, at.1, ends_behind _ _ fault status last ends at.2 (λ n is. c.in-Err-done.ensures.gap_next store.openable.image store.held n store.openable.told store.has (ap (λ (f : RunFault). Err f) is)));
        unfit = λ v now unfit.
            let at = c.in-Err-done.ensures.unfit v now unfit in
            (at.0, at.1, ends_unfit (planned c.in-Ok.asked) v _ fault status last ends at.2);
        no_gap = λ ok. absurd (run_at _ fault status last ends Ok ok);
        gap = λ is v events now has.
            let at = run_at _ fault status last ends Gap is in
            let told = ap (λ (f : RunFault). Err f) at.1 in
            omega (arith, c.in-Err-done.ensures.gap at.0 told, c.in-Err-done.ensures.gap_next v events at.0 now has told);
        log = c.in-Err-done.ensures.log_stays;
        at_end = λ ok. absurd (run_at _ fault status last ends Ok ok);
      },
    )

pub returns-clause-ends : goal.returns-clause-ends
returns-clause-ends g c =
    let fault = c.in-Err-done.fault in
    let status = ending_status c.ending_of.result in
    let last = ending_line c.ending_of.result in
    let asks = planned c.in-Ok.asked in
    let legal = legal_of _ asks c.in-Ok.ensures.legal in
    let at = run_at c.args.first fault status last c.ending_of.ensures in
    record {
      why = row_cause (outcome (source_outcome g.P.Source _ _) (source_outcome g.I.Source _ _) (host_outcome g.H.Host _ _)) c.args.first asks c.in-Ok.ensures.legal fault last _ status c.ending_of.ensures
          (λ is. store_line asks _ _ _ _ fault status last c.ending_of.ensures is
          (λ e. (c.in-Err-done.ensures.differs (ap (λ (f : RunFault). Err f) e), c.in-Err-done.ensures.store_first (ap (λ (f : RunFault). Err f) e)))
          (λ p e. (λ v told events has. c.in-Err-done.ensures.undamaged v events p told has (ap (λ (f : RunFault). Err f) e), c.in-Err-done.ensures.damaged p (ap (λ (f : RunFault). Err f) e)))
          (λ n e v told events has. c.in-Err-done.ensures.bad v events n told has (ap (λ (f : RunFault). Err f) e)))
          (λ n e. (
            (λ v events told has. c.in-Err-done.ensures.gap_next v events n told has (ap (λ (f : RunFault). Err f) e)),
            c.in-Err-done.ensures.gap n (ap (λ (f : RunFault). Err f) e),
            c.in-Err-done.ensures.gap_first n (ap (λ (f : RunFault). Err f) e),
          ))
          (λ e. c.in-Err-done.ensures.disk (ap (λ (f : RunFault). Err f) e))
          (λ e. c.in-Err-done.ensures.read (ap (λ (f : RunFault). Err f) e))
          (λ e. c.in-Err-done.ensures.write (ap (λ (f : RunFault). Err f) e))
          (λ e. c.in-Err-done.ensures.limit (ap (λ (f : RunFault). Err f) e));
      alone = gone_alone c.args.first _ _ _ _ asks c.in-Ok.ensures.legal (λ is. at BadPlan is) (λ is. c.in-Err-done.ensures.read (ap (λ (f : RunFault). Err f) (at Read is)));
      later = c.in-Err-done.ensures.out_faults;
    }

-- a ledger of its own

pub new-steps-requires-clause-named : goal.new-steps-requires-clause-named
new-steps-requires-clause-named g c = c.requires.of_ledger.named

pub new-steps-requires-clause-parts : goal.new-steps-requires-clause-parts
new-steps-requires-clause-parts g c = c.requires.of_ledger.cut

pub new-steps-requires-clause-whole : goal.new-steps-requires-clause-whole
new-steps-requires-clause-whole g c = c.requires.of_ledger.whole
