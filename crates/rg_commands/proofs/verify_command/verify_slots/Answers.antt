use Rattle.std.proofs.Common.{true, false, Err, refl, ap, subst}
use Rattle.rg_host.specs.Puts.{Puts}
use Rattle.rg_config.specs.Plans.{planned}
use Rattle.rg_engine.proofs.Laws.{serves}
use Rattle.rg_verify.specs.declared.fault.VerifyFault.{VerifyFault}
use Rattle.rg_verify.specs.Fitting.{terms_of}
use Rattle.rg_verify.specs.Verify.{IsSaid, IsCut}
use Rattle.rg_commands.specs.Call.{ending_status, ending_line}
use Rattle.rg_commands.specs.Outcome.{host_outcome}
use Rattle.rg_commands.specs.Verifies.{IsReadyVerify, SaysSlots}
use Rattle.rg_commands.proofs.Verifying.{terms_same, verifiable_as, row_of, fits}
use Rattle.rg_commands.proofs.verify_command.verify_slots.Goals as goal

-- the plan's defaults are of its columns

pub verify-requires-clause-defaults : goal.verify-requires-clause-defaults
verify-requires-clause-defaults g c = c.requires.is_read.defaults

-- it ended early

pub returns-in-Err : goal.returns-in-Err
returns-in-Err g c = record {
  goes =
      let plan = c.args.plan.now in
      let h = host_outcome g.H.Host c.args.host.now c.verify.new.host in
      let over = λ (ready : IsReadyVerify (planned plan) h.image). verifiable_as plan h.image c.requires.is_read (serves plan.schema (planned plan).queries c.requires.is_read.legal) ready in
      record {
        ends = row_of (planned plan) h (ending_line c.ending_of.result) (ending_status c.ending_of.result) c.in-Err.fault c.ending_of.ensures
            (λ ready. c.in-Err.ensures.outside ready.image ready.events ready.told (over ready))
            (λ e v told. (c.in-Err.ensures.differs (ap (λ (f : VerifyFault). Err f) e) v told, c.in-Err.ensures.whole (ap (λ (f : VerifyFault). Err f) e) v told)) (λ p e. c.in-Err.ensures.damaged p (ap (λ (f : VerifyFault). Err f) e))
            (λ e. c.in-Err.ensures.disk (ap (λ (f : VerifyFault). Err f) e)) (λ e. c.in-Err.ensures.write (ap (λ (f : VerifyFault). Err f) e)) c.in-Err.ensures.silent
            (λ w ready. subst (λ t. IsCut t ready.image ready.events (Puts g.H.Host.said g.H.Host.clock g.H.Host.since c.args.host.now c.verify.new.host)) (terms_same plan c.requires.is_read)
            (c.in-Err.ensures.cut (ap (λ (f : VerifyFault). Err f) w) ready.image ready.events ready.told (over ready)));
        files = c.in-Err.ensures.leaves;
        later = c.in-Err.ensures.out_faults;
      };
}

-- a checkpoint isn't what the events give

pub returns-then-differ : goal.returns-then-differ
returns-then-differ g c = record {
  goes = record {
    ends = (
      refl,
      (λ ready.
          let plan = c.args.plan.now in
          let over = verifiable_as plan (g.H.Host.now c.args.host.now) c.requires.is_read (serves plan.schema (planned plan).queries c.requires.is_read.legal) ready in
          subst (λ t. IsSaid t ready.image ready.events (Puts g.H.Host.said g.H.Host.clock g.H.Host.since c.args.host.now c.verify.new.host) true) (terms_same plan c.requires.is_read)
          (subst (λ d. IsSaid (terms_of plan.queries plan.schema plan.task) ready.image ready.events (Puts g.H.Host.said g.H.Host.clock g.H.Host.since c.args.host.now c.verify.new.host) d) c.if-differ.true
          (c.in-Ok.ensures.completes ready.image ready.events ready.told over))),
      fits (planned c.args.plan.now) (g.H.Host.now c.args.host.now) c.in-Ok.ensures.undamaged c.in-Ok.ensures.other,
    );
    files = c.in-Ok.ensures.leaves;
    later = c.in-Ok.ensures.out_faults;
  };
}

-- all is as it should be

pub returns : goal.returns
returns g c = record {
  goes = record {
    ends = (
      refl,
      (λ ready.
          let plan = c.args.plan.now in
          let over = verifiable_as plan (g.H.Host.now c.args.host.now) c.requires.is_read (serves plan.schema (planned plan).queries c.requires.is_read.legal) ready in
          subst (λ t. IsSaid t ready.image ready.events (Puts g.H.Host.said g.H.Host.clock g.H.Host.since c.args.host.now c.verify.new.host) false) (terms_same plan c.requires.is_read)
          (subst (λ d. IsSaid (terms_of plan.queries plan.schema plan.task) ready.image ready.events (Puts g.H.Host.said g.H.Host.clock g.H.Host.since c.args.host.now c.verify.new.host) d) c.if-differ.false
          (c.in-Ok.ensures.completes ready.image ready.events ready.told over))),
      fits (planned c.args.plan.now) (g.H.Host.now c.args.host.now) c.in-Ok.ensures.undamaged c.in-Ok.ensures.other,
    );
    files = c.in-Ok.ensures.leaves;
    later = c.in-Ok.ensures.out_faults;
  };
}
