use Rattle.std.proofs.Common.{◌≡◌, ◌∙◌, List, ap, sym, subst}
use Rattle.std.proofs.lemmas.Result.{IfOk-weaker, IfErr-weaker}
use Rattle.rg_event.specs.declared.event.Event.{Event}
use Rattle.rg_row_audit.specs.Rows.{AreServed}
use Rattle.rg_dump.proofs.Laws.{read-then}
use Rattle.rg_verify.specs.Causes.{IsFirstDamage, IsOfOther}
use Rattle.rg_verify.specs.Fitting.{terms_of}
use Rattle.rg_verify.specs.Payments.{extended_by}
use Rattle.rg_verify.specs.Verify.{IsVerified}
use Rattle.rg_verify.proofs.Causes.{on-ok, unjudged-within}
use Rattle.rg_verify.proofs.Logs.{frames_of, served}
use Rattle.rg_verify.proofs.store.judge_log.Goals as goal

pub returns-clause-verified : goal.returns-clause-verified
returns-clause-verified g c = λ v events told read is.
    let terms = terms_of c.args.queries.now c.args.schema.now c.args.task.now in
    let defaults = c.args.defaults.now in
    let same : c.fill.new.events ≡ events = c.in-Ok-fill.ensures ∙ ap (λ (l : List Event). extended_by c.in-Ok.found.further l) read.events_are ∙ (c.in-Ok.ensures.found v told).events events is.has in
    let framed = frames_of c.args.schema.now defaults events (v 2) is.has in
    IfOk-weaker c.judge_read.result (λ verdicts. IsVerified terms v c.fill.new.events verdicts.first verdicts.second) (λ verdicts. IsVerified terms v events verdicts.first verdicts.second)
    (λ verdicts said. subst (λ (l : List Event). IsVerified terms v l verdicts.first verdicts.second) same said)
    (c.judge_read.ensures.verified v framed.0 (c.find.ensures.leaves.leaves.now_stays ∙ told) framed.1 read.framed_is
    (subst (λ (l : List Event). AreServed c.args.task.now l) (sym same) (served terms defaults v events is)))

pub returns-clause-ours : goal.returns-clause-ours
returns-clause-ours g c = on-ok c.judge_read.result (λ v told. (c.in-Ok.ensures.found v told).ours)

pub returns-clause-leaves : goal.returns-clause-leaves
returns-clause-leaves g c = read-then g.H.Host.now g.H.Host.may g.H.Host.clock g.H.Host.since g.H.Host.said g.H.Host.disk_faults g.H.Host.out_faults _ _ _ c.find.ensures.leaves c.judge_read.ensures.leaves

pub returns-clause-cause : goal.returns-clause-cause
returns-clause-cause g c =
    IfErr-weaker c.judge_read.result _ _
    (λ fault why. unjudged-within (IsFirstDamage (g.H.Host.now c.args.host.now)) (λ _. ⊥) (IsOfOther c.args.schema.now c.args.defaults.now (g.H.Host.now c.args.host.now)) ⊥ _ _ _ fault c.find.ensures.leaves.disk_faults (λ place no. absurd no) (λ no. absurd no) why) c.judge_read.ensures.cause
