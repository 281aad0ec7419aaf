use Rattle.std.proofs.Common.{◌≡◌, ℕ, List, Err, refl, ap, ◌∙◌, subst, arith}
use Rattle.rg_config.specs.Plans.{planned}
use Rattle.rg_engine.proofs.Laws.{serves}
use Rattle.rg_replay.specs.declared.fault.ReplayFault.{ReplayFault}
use Rattle.rg_messages.specs.declared.status.Status.TheVariants.{Ok, Memory}
use Rattle.rg_commands.specs.Call.{ending_status, ending_line}
use Rattle.rg_commands.specs.Outcome.{host_outcome}
use Rattle.rg_commands.specs.Replays.{ReplayEnds, IsReadyReplay}
use Rattle.rg_commands.proofs.Ends.{up_to_all}
use Rattle.rg_commands.proofs.Replaying.{replayable, row_of, stopped}
use Rattle.rg_commands.proofs.Unread.{none_up_to, nothing_put, files_left}
use Rattle.rg_commands.proofs.replay_command.replay_log.Goals as goal

-- memory ran out for a copy of the task plan

pub returns-in-Err : goal.returns-in-Err
returns-in-Err g c = record {
  goes = record {
    put = λ ready. none_up_to g.H.Host g.met.H.Host.only_now g.met.H.Host.sinks c.args.host.now _ Memory (λ ok. absurd (let e : Memory ≡ Ok = ok in cc));
    unfit = λ v told unfit. ((λ ok. absurd (let e : Memory ≡ Ok = ok in cc)), nothing_put g.H.Host g.met.H.Host.only_now g.met.H.Host.sinks c.args.host.now);
    whole = λ ok. absurd (let e : Memory ≡ Ok = ok in cc);
    why = refl;
    files = files_left g.H.Host g.met.H.Host.only_now g.met.H.Host.sinks c.args.host.now;
    later = omega arith;
  };
}

-- the replay came to its end

pub returns-in-Ok-replay : goal.returns-in-Ok-replay
returns-in-Ok-replay g c = record {
  goes = record {
    put = λ ready. up_to_all _ _ Ok (c.in-Ok-replay.ensures.completes (planned c.args.plan.now).queries ready.events
        (replayable (planned c.args.plan.now) c.in-Ok.task _ _ (c.in-Ok.ensures ∙ c.requires.is_read.task) (serves (planned c.args.plan.now).shape (planned c.args.plan.now).queries c.requires.is_read.legal) ready));
    unfit = λ v told unfit. absurd (c.in-Ok-replay.ensures.refused v told unfit).0;
    whole = λ ok. c.in-Ok-replay.ensures.whole;
    why = refl;
    files = c.in-Ok-replay.ensures.leaves;
    later = c.in-Ok-replay.ensures.out_faults;
  };
}

-- it ended early

pub returns : goal.returns
returns g c = record {
  goes =
      let plan = planned c.args.plan.now in
      let h = host_outcome g.H.Host c.args.host.now c.replay.new.host in
      let over = λ (ready : IsReadyReplay plan h.image h.may). replayable plan c.in-Ok.task _ _ (c.in-Ok.ensures ∙ c.requires.is_read.task) (serves plan.shape plan.queries c.requires.is_read.legal) ready in
      let row : (ok : Type 0) → ReplayEnds ok plan h (ending_line c.ending_of.result) (ending_status c.ending_of.result) = λ ok. row_of plan h _ _ ok c.in-Err-replay.fault c.ending_of.ensures
      (λ ready. c.in-Err-replay.ensures.expected plan.queries ready.events (over ready))
      (λ e. c.in-Err-replay.ensures.differs (ap (λ (f : ReplayFault). Err f) e)) (λ p e. c.in-Err-replay.ensures.damaged p (ap (λ (f : ReplayFault). Err f) e))
      (λ e. c.in-Err-replay.ensures.disk (ap (λ (f : ReplayFault). Err f) e)) (λ e. c.in-Err-replay.ensures.write (ap (λ (f : ReplayFault). Err f) e)) in
      let not_ok : ending_status c.ending_of.result ≡ Ok → ⊥ = λ ok. subst (ReplayEnds ⊥ plan h (ending_line c.ending_of.result)) ok (row ⊥) in
      record {
        put = λ ready. stopped _ h c.in-Err-replay.fault (ending_status c.ending_of.result) (ending_line c.ending_of.result) c.ending_of.ensures not_ok (c.in-Err-replay.ensures.stops plan.queries ready.events (over ready));
        unfit = λ v told unfit. (not_ok, (c.in-Err-replay.ensures.refused v told unfit).1);
        whole = λ ok. absurd (not_ok ok);
        why = row _;
        files = c.in-Err-replay.ensures.leaves;
        later = c.in-Err-replay.ensures.out_faults;
      };
}

-- a ledger of its own

pub new-steps-requires-clause-named : goal.new-steps-requires-clause-named
new-steps-requires-clause-named g c = c.requires.of_ledger.named

pub new-steps-requires-clause-parts : goal.new-steps-requires-clause-parts
new-steps-requires-clause-parts g c = c.requires.of_ledger.cut

pub new-steps-requires-clause-whole : goal.new-steps-requires-clause-whole
new-steps-requires-clause-whole g c = c.requires.of_ledger.whole
