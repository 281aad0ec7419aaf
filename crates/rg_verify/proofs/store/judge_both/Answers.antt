use Rattle.std.proofs.Common.{◌∙◌}
use Rattle.rg_dump.proofs.Laws.{read-then}
use Rattle.rg_verify.proofs.Causes.{unjudged-within}
use Rattle.rg_verify.proofs.store.judge_both.Goals as goal

pub returns-in-Ok-judge_slot-clause-verdicts : goal.returns-in-Ok-judge_slot-clause-verdicts
returns-in-Ok-judge_slot-clause-verdicts g c = λ shape v payloads columns told has framed served. record {
  first_is = c.in-Ok.ensures.verdict shape v payloads columns told has framed served;
  second_is = c.in-Ok-judge_slot.ensures.verdict shape v payloads columns (c.in-Ok.ensures.leaves.leaves.now_stays ∙ told) has framed served;
}

pub returns-in-Ok-judge_slot-clause-leaves : goal.returns-in-Ok-judge_slot-clause-leaves
returns-in-Ok-judge_slot-clause-leaves g c = read-then g.H.Host.now g.H.Host.may g.H.Host.clock g.H.Host.since g.H.Host.said g.H.Host.disk_faults g.H.Host.out_faults _ _ _ c.judge_slot.ensures.leaves c.judge_slot-2.ensures.leaves

pub returns-in-Err-judge_slot-clause-leaves : goal.returns-in-Err-judge_slot-clause-leaves
returns-in-Err-judge_slot-clause-leaves g c = read-then g.H.Host.now g.H.Host.may g.H.Host.clock g.H.Host.since g.H.Host.said g.H.Host.disk_faults g.H.Host.out_faults _ _ _ c.judge_slot.ensures.leaves c.judge_slot-2.ensures.leaves

pub returns-in-Err-judge_slot-clause-cause : goal.returns-in-Err-judge_slot-clause-cause
returns-in-Err-judge_slot-clause-cause g c =
    unjudged-within (λ _. ⊥) (λ _. ⊥) ⊥ ⊥ _ _ _ c.in-Err-judge_slot.fault c.judge_slot.ensures.leaves.disk_faults (λ place no. no) (λ no. no) c.in-Err-judge_slot.ensures.cause
