use Rattle.std.proofs.Common.{◌≡◌, ◌∙◌, Some, true, false, refl, sym, subst}
use Rattle.std.specs.Prelude.{IsTrue}
use Rattle.std.proofs.lemmas.Result.{IfOk-weaker, IfErr-weaker}
use Rattle.rg_dump.proofs.Laws.{read-none}
use Rattle.rg_verify.specs.Causes.{IsUnjudged}
use Rattle.rg_verify.specs.Fitting.{terms_of, IsRowVerdict}
use Rattle.rg_verify.specs.Verdicts.{IsVerdict}
use Rattle.rg_verify.specs.declared.fault.VerifyFault.TheVariants.{Memory}
use Rattle.rg_verify.proofs.Fits.{is_false}
use Rattle.rg_verify.proofs.Judged.{fit_said, unfit_said}
use Rattle.rg_verify.proofs.judging.judge_checkpoint.Goals as goal

pub returns-then-not-same_texts-clause-verdict : goal.returns-then-not-same_texts-clause-verdict
returns-then-not-same_texts-clause-verdict g c = λ shape v payloads columns told has framed served.
    (refl, λ same. let e : true ≡ false = sym (c.same_texts.ensures.1 same) ∙ c.if-not-same_texts.true in cc)

pub returns-then-not-fit-clause-verdict : goal.returns-then-not-fit-clause-verdict
returns-then-not-fit-clause-verdict g c = λ shape v payloads columns told has framed served.
    unfit_said c.args.wanted.now.queries.now shape c.args.wanted.now.fields.now c.args.wanted.now.task.now (v 2) payloads c.args.log.now.events c.args.checkpoint.now columns has
    c.args.log.now.framed framed (c.same_texts.ensures.0 c.if-not-same_texts.false) c.in-Ok.fit (c.in-Ok.ensures.fit v payloads told has) (λ is. is_false (subst IsTrue c.if-not-fit.true is))

pub returns-clause-verdict : goal.returns-clause-verdict
returns-clause-verdict g c = λ shape v payloads columns told has framed served.
    IfOk-weaker c.judge_rows.result (IsRowVerdict c.args.wanted.now.task.now c.args.log.now.events c.args.checkpoint.now)
    (IsVerdict (terms_of c.args.wanted.now.queries.now shape c.args.wanted.now.task.now) (v 2) c.args.log.now.events (Some c.args.checkpoint.now))
    (λ verdict rows. fit_said c.args.wanted.now.queries.now shape c.args.wanted.now.fields.now c.args.wanted.now.task.now (v 2) payloads c.args.log.now.events c.args.checkpoint.now columns has
    c.args.log.now.framed framed (c.same_texts.ensures.0 c.if-not-same_texts.false) c.in-Ok.fit (c.in-Ok.ensures.fit v payloads told has) (subst IsTrue (sym c.if-not-fit.false) refl) verdict rows)
    (c.judge_rows.ensures.verdict served)

pub returns-then-not-same_texts-clause-leaves : goal.returns-then-not-same_texts-clause-leaves
returns-then-not-same_texts-clause-leaves g c = read-none g.H.Host.now g.H.Host.may g.H.Host.clock g.H.Host.since g.H.Host.said g.H.Host.disk_faults g.H.Host.out_faults _ (λ t u m. g.met.H.Host.sinks _ t u m) (λ m. g.met.H.Host.only_now _ m)

pub returns-clause-cause : goal.returns-clause-cause
returns-clause-cause g c =
    IfErr-weaker c.judge_rows.result (λ fault. fault ≡ Memory) (IsUnjudged (λ _. ⊥) ⊥ (g.H.Host.disk_faults c.args.host.now) (g.H.Host.disk_faults c.is_fit.new.host))
    (λ fault memory. subst (IsUnjudged (λ _. ⊥) ⊥ (g.H.Host.disk_faults c.args.host.now) (g.H.Host.disk_faults c.is_fit.new.host)) (sym memory) tt) c.judge_rows.ensures.memory
