use Rattle.std.proofs.Common.{◌≡◌, ◌∙◌, ◌⊎◌, inl, inr, ⊎_elim, [], None, Some, sym}
use Rattle.std.proofs.lemmas.Result.{IfOk-weaker, IfErr-weaker}
use Rattle.rg_host.specs.Lines.{ended}
use Rattle.rg_host.specs.Puts.{Puts}
use Rattle.rg_host.proofs.Laws.{puts-then}
use Rattle.rg_dump.proofs.Laws.{puts_nothing}
use Rattle.rg_verify.specs.declared.fault.VerifyFault.TheVariants.{Disk, Damaged, SchemaDiffers, Memory, Write}
use Rattle.rg_verify.specs.Faults.{IsFromOutside}
use Rattle.rg_verify.specs.Fitting.{terms_of}
use Rattle.rg_verify.specs.Verify.{IsSaid, one_differs, verify_lines}
use Rattle.rg_verify.proofs.Causes.{outside-of, unjudged-damaged, unjudged-differs, unjudged-disk, unjudged-write}
use Rattle.rg_verify.proofs.Logs.{undamaged}
use Rattle.rg_verify.proofs.store.verify.Goals as goal

pub returns-clause-completes : goal.returns-clause-completes
returns-clause-completes g c = λ v events told is.
    let put = Puts g.H.Host.said g.H.Host.clock g.H.Host.since in
    let first = c.in-Ok.verdicts.first in
    let second = c.in-Ok.verdicts.second in
    IfOk-weaker c.put_verdicts.result (λ differ. put c.judge_store.new.host c.put_verdicts.new.host (ended (verify_lines first second)) × (differ ≡ one_differs first second))
    (IsSaid (terms_of c.args.queries.now c.args.schema.now c.args.task.now) v events (put c.args.host.now c.put_verdicts.new.host))
    (λ differ all. record {
      first = first;
      second = second;
      verified = c.in-Ok.ensures.verified v events told is;
      puts = puts-then g.H.Host.said g.H.Host.clock g.H.Host.since _ _ _ [] _ (puts_nothing g.H.Host.now g.H.Host.may g.H.Host.clock g.H.Host.since g.H.Host.said _ _ c.judge_store.ensures.leaves.leaves) all.0;
      tells = all.1;
    })
    c.put_verdicts.ensures.all

pub returns-clause-cut : goal.returns-clause-cut
returns-clause-cut g c = λ write v events told is.
    let p = c.put_verdicts.ensures.cut write in
    record {
      first = c.in-Ok.verdicts.first;
      second = c.in-Ok.verdicts.second;
      verified = c.in-Ok.ensures.verified v events told is;
      part = p.0;
      prefix = p.1;
      puts = puts-then g.H.Host.said g.H.Host.clock g.H.Host.since _ _ _ [] p.0 (puts_nothing g.H.Host.now g.H.Host.may g.H.Host.clock g.H.Host.since g.H.Host.said _ _ c.judge_store.ensures.leaves.leaves) p.2;
    }

pub returns-clause-outside : goal.returns-clause-outside
returns-clause-outside g c = λ v events told is.
    IfErr-weaker c.put_verdicts.result (λ fault. (fault ≡ Write) ⊎ ((fault ≡ Memory) × Puts g.H.Host.said g.H.Host.clock g.H.Host.since c.judge_store.new.host c.put_verdicts.new.host [])) IsFromOutside
    (λ fault cause. ⊎_elim (λ write. inr (inr write)) (λ memory. inr (inl memory.0)) cause) c.put_verdicts.ensures.faults

pub returns-clause-silent : goal.returns-clause-silent
returns-clause-silent g c =
    let put = Puts g.H.Host.said g.H.Host.clock g.H.Host.since in
    IfErr-weaker c.put_verdicts.result (λ fault. (fault ≡ Write) ⊎ ((fault ≡ Memory) × put c.judge_store.new.host c.put_verdicts.new.host [])) (λ fault. (fault ≡ Write) ⊎ put c.args.host.now c.put_verdicts.new.host [])
    (λ fault cause. ⊎_elim (λ write. inl write) (λ memory. inr (puts-then g.H.Host.said g.H.Host.clock g.H.Host.since _ _ _ [] [] (puts_nothing g.H.Host.now g.H.Host.may g.H.Host.clock g.H.Host.since g.H.Host.said _ _ c.judge_store.ensures.leaves.leaves) memory.1)) cause)
    c.put_verdicts.ensures.faults

pub returns-clause-other : goal.returns-clause-other
returns-clause-other g c = λ v told other. absurd (c.in-Ok.ensures.ours v told other)

pub returns-in-Err-clause-outside : goal.returns-in-Err-clause-outside
returns-in-Err-clause-outside g c = λ v events told is.
    outside-of _ _ _ _ c.in-Err.fault
    (λ p damage. let wrong : None ≡ Some p = sym (undamaged c.args.schema.now c.args.defaults.now events (v 2) is.has) ∙ damage v told in cc)
    (λ other. other.is.no_events v events told is.has) c.in-Err.ensures.cause

pub returns-in-Err-clause-damaged : goal.returns-in-Err-clause-damaged
returns-in-Err-clause-damaged g c = λ p e.
    let same : c.in-Err.fault ≡ Damaged p = cc in
    unjudged-damaged _ _ _ _ c.in-Err.fault c.in-Err.ensures.cause p same

pub returns-in-Err-clause-differs : goal.returns-in-Err-clause-differs
returns-in-Err-clause-differs g c = λ e.
    let same : c.in-Err.fault ≡ SchemaDiffers = cc in
    (unjudged-differs _ _ _ _ c.in-Err.fault c.in-Err.ensures.cause same).is.other

pub returns-in-Err-clause-whole : goal.returns-in-Err-clause-whole
returns-in-Err-clause-whole g c = λ e.
    let same : c.in-Err.fault ≡ SchemaDiffers = cc in
    (unjudged-differs _ _ _ _ c.in-Err.fault c.in-Err.ensures.cause same).whole

pub returns-in-Err-clause-disk : goal.returns-in-Err-clause-disk
returns-in-Err-clause-disk g c = λ e.
    let same : c.in-Err.fault ≡ Disk = cc in
    unjudged-disk _ _ _ _ c.in-Err.fault c.in-Err.ensures.cause same

pub returns-in-Err-clause-write : goal.returns-in-Err-clause-write
returns-in-Err-clause-write g c = λ e.
    let same : c.in-Err.fault ≡ Write = cc in
    absurd (unjudged-write _ _ _ _ c.in-Err.fault c.in-Err.ensures.cause same)

pub returns-in-Err-clause-cut : goal.returns-in-Err-clause-cut
returns-in-Err-clause-cut g c = λ e.
    let same : c.in-Err.fault ≡ Write = cc in
    absurd (unjudged-write _ _ _ _ c.in-Err.fault c.in-Err.ensures.cause same)

pub returns-in-Err-clause-silent : goal.returns-in-Err-clause-silent
returns-in-Err-clause-silent g c = inr (puts_nothing g.H.Host.now g.H.Host.may g.H.Host.clock g.H.Host.since g.H.Host.said _ _ c.judge_store.ensures.leaves.leaves)
