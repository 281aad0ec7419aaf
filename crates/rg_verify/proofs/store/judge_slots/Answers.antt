use Rattle.std.proofs.Common.{◌∙◌, Err, ap, sym, subst}
use Rattle.std.proofs.lemmas.Result.{IfOk-weaker, IfErr-weaker}
use Rattle.rg_checkpoint.specs.declared.fault.SlotFault.{SlotFault}
use Rattle.rg_dump.proofs.Laws.{read-then}
use Rattle.rg_verify.specs.Causes.{IsUnjudged}
use Rattle.rg_verify.specs.Fitting.{AreVerdicts, terms_of}
use Rattle.rg_verify.specs.Verify.{IsVerified}
use Rattle.rg_verify.proofs.Causes.{unjudged-slot, unjudged-within}
use Rattle.rg_verify.proofs.store.judge_slots.Goals as goal

pub returns-in-Ok-clause-verified : goal.returns-in-Ok-clause-verified
returns-in-Ok-clause-verified g c = λ shape v payloads columns told has framed served.
    let terms = terms_of c.args.wanted.now.queries.now shape c.args.wanted.now.task.now in
    IfOk-weaker c.judge_both.result (λ verdicts. AreVerdicts terms (v 2) c.args.log.now.events c.in-Ok.slots.first c.in-Ok.slots.second verdicts.first verdicts.second)
    (λ verdicts. IsVerified terms v c.args.log.now.events verdicts.first verdicts.second)
    (λ verdicts said. record {
      one = c.in-Ok.slots.first;
      two = c.in-Ok.slots.second;
      one_is = c.in-Ok.ensures.first v told;
      two_is = c.in-Ok.ensures.second v told;
      first_is = said.first_is;
      second_is = said.second_is;
    })
    (c.judge_both.ensures.verdicts shape v payloads columns (c.in-Ok.ensures.leaves.now_stays ∙ told) has framed served)

pub returns-in-Ok-clause-leaves : goal.returns-in-Ok-clause-leaves
returns-in-Ok-clause-leaves g c = read-then g.H.Host.now g.H.Host.may g.H.Host.clock g.H.Host.since g.H.Host.said g.H.Host.disk_faults g.H.Host.out_faults _ _ _ (record { leaves = c.attach.ensures.leaves; disk_faults = c.attach.ensures.disk_faults; out_faults = c.attach.ensures.out_faults }) c.judge_both.ensures.leaves

pub returns-in-Ok-clause-cause : goal.returns-in-Ok-clause-cause
returns-in-Ok-clause-cause g c =
    IfErr-weaker c.judge_both.result _ _ (λ fault why. unjudged-within (λ _. ⊥) (λ _. ⊥) ⊥ ⊥ _ _ _ fault c.attach.ensures.disk_faults (λ place no. no) (λ no. no) why) c.judge_both.ensures.cause

pub slots_fault-requires : goal.slots_fault-requires
slots_fault-requires g c = record { ended = λ is. c.in-Err.ensures.no_ended (ap (λ (f : SlotFault). Err f) is) }

pub returns-in-Err-clause-cause : goal.returns-in-Err-clause-cause
returns-in-Err-clause-cause g c =
    subst (IsUnjudged (λ _. ⊥) ⊥ (g.H.Host.disk_faults c.args.host.now) (g.H.Host.disk_faults c.attach.new.host)) (sym c.slots_fault.ensures)
    (unjudged-slot (λ _. ⊥) ⊥ _ _ c.in-Err.fault (λ is. c.in-Err.ensures.disk (ap (λ (f : SlotFault). Err f) is)))

pub returns-in-Err-clause-leaves : goal.returns-in-Err-clause-leaves
returns-in-Err-clause-leaves g c = record { leaves = c.attach.ensures.leaves; disk_faults = c.attach.ensures.disk_faults; out_faults = c.attach.ensures.out_faults }
