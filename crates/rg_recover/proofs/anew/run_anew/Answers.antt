use Rattle.std.proofs.Common.{◌≡◌, ◌∙◌, Some, Ok, Err, ap, arith}
use Rattle.rg_host.specs.MemHost.{begun}
use Rattle.rg_host.specs.MemSource.{Supply}
use Rattle.rg_config.specs.Plans.{planned}
use Rattle.rg_run.specs.declared.fault.RunFault.{RunFault}
use Rattle.rg_recover.proofs.NewStore.{new_host, ran_anew, ready_new, may_meet}
use Rattle.rg_recover.proofs.anew.run_anew.Goals as goal

pub returns-in-Ok-run-clause-ran : goal.returns-in-Ok-run-clause-ran
returns-in-Ok-run-clause-ran g c =
    let host_is : c.in-Ok.host ≡ new_host = c.in-Ok.ensures.begun ∙ (λ i. begun (c.new.ensures i) (c.new-2.ensures.items i)) in
    ran_anew (planned c.args.plan.now) c.args.input.items c.in-Ok.host c.run.new.host (Ok c.in-Ok-run.field-0) c.requires.schema host_is
    (λ ready. let went = c.in-Ok-run.ensures.ran ready c.args.input.items (ap (λ (s : Supply). Some s.left) c.new-source.ensures) in (went.0, went.1.is_from, went.1.finished))

pub returns-in-Err-run-clause-fault : goal.returns-in-Err-run-clause-fault
returns-in-Err-run-clause-fault g c =
    let host_is : c.in-Ok.host ≡ new_host = c.in-Ok.ensures.begun ∙ (λ i. begun (c.new.ensures i) (c.new-2.ensures.items i)) in
    let ready = ready_new (planned c.args.plan.now) c.in-Ok.host c.requires.schema host_is in
    may_meet c.in-Err-run.fault
    (λ p is. c.in-Err-run.ensures.never_damaged ready.openable p (ap (λ (f : RunFault). Err f) is))
    (λ is. c.in-Err-run.ensures.never_differs ready.openable (ap (λ (f : RunFault). Err f) is))
    (λ n is. c.in-Err-run.ensures.never_bad ready.openable n (ap (λ (f : RunFault). Err f) is))
    (λ n is. let below = c.in-Err-run.ensures.gap n (ap (λ (f : RunFault). Err f) is) in absurd (omega (arith, below)))
