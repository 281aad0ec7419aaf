use Rattle.std.proofs.Common.{◌∙◌, sym, arith}
use Rattle.std.proofs.lemmas.Result.{on_ok_weaker, IfErr-weaker}
use Rattle.rg_dump.proofs.Laws.{read-then}
use Rattle.rg_verify.specs.Causes.{IsFirstDamage, IsOfOther, IsWholeOther}
use Rattle.rg_verify.proofs.Causes.{on-ok, unjudged-within}
use Rattle.rg_verify.proofs.store.judge_store.Goals as goal

pub judge_log-requires-clause-undamaged : goal.judge_log-requires-clause-undamaged
judge_log-requires-clause-undamaged g c = λ v told. (c.in-Ok.ensures.read v (sym c.read_log.ensures.leaves.leaves.now_stays ∙ told)).undamaged

pub returns-clause-verified : goal.returns-clause-verified
returns-clause-verified g c = λ v events told is. c.judge_log.ensures.verified v events (c.read_log.ensures.leaves.leaves.now_stays ∙ told) (c.in-Ok.ensures.read v told) is

pub returns-clause-ours : goal.returns-clause-ours
returns-clause-ours g c = on_ok_weaker c.judge_log.result (λ ours v told other. ours v (c.read_log.ensures.leaves.leaves.now_stays ∙ told) other) c.judge_log.ensures.ours

pub returns-clause-undamaged : goal.returns-clause-undamaged
returns-clause-undamaged g c = on-ok c.judge_log.result (λ v told. (c.in-Ok.ensures.read v told).undamaged)

pub returns-clause-leaves : goal.returns-clause-leaves
returns-clause-leaves g c = read-then g.H.Host.now g.H.Host.may g.H.Host.clock g.H.Host.since g.H.Host.said g.H.Host.disk_faults g.H.Host.out_faults _ _ _ c.read_log.ensures.leaves c.judge_log.ensures.leaves

pub returns-clause-cause : goal.returns-clause-cause
returns-clause-cause g c =
    let left = c.read_log.ensures.leaves in
    IfErr-weaker c.judge_log.result _ _
    (λ fault why. unjudged-within (IsFirstDamage (g.H.Host.now c.args.host.now)) (IsFirstDamage (g.H.Host.now c.read_log.new.host)) (IsWholeOther c.args.schema.now c.args.defaults.now (g.H.Host.now c.args.host.now)) (IsOfOther c.args.schema.now c.args.defaults.now (g.H.Host.now c.read_log.new.host)) _ _ _ fault left.disk_faults
    (λ place damaged v told. damaged v (left.leaves.now_stays ∙ told))
    (λ other. record {
      is = record { other = λ v told. other.other v (left.leaves.now_stays ∙ told); no_events = λ v events told has. other.no_events v events (left.leaves.now_stays ∙ told) has };
      whole = λ v told. (c.in-Ok.ensures.read v told).undamaged;
    }) why) c.judge_log.ensures.cause

pub returns-in-Err-clause-cause : goal.returns-in-Err-clause-cause
returns-in-Err-clause-cause g c =
    let damage = IsFirstDamage (g.H.Host.now c.args.host.now) in
    unjudged-within damage damage (IsWholeOther c.args.schema.now c.args.defaults.now (g.H.Host.now c.args.host.now)) ⊥ (g.H.Host.disk_faults c.args.host.now) (g.H.Host.disk_faults c.args.host.now) _ c.in-Err.fault (omega arith) (λ place first. first) (λ no. absurd no) c.in-Err.ensures.cause
