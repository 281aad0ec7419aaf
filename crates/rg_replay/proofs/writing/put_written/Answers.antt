use Rattle.std.proofs.Common.{inr, ℕ, List, refl, subst, arith}
use Rattle.rg_host.specs.Puts.{IsPrefix, Puts}
use Rattle.rg_replay.proofs.writing.put_written.Goals as goal

pub returns-in-Ok-clause-puts : goal.returns-in-Ok-clause-puts
returns-in-Ok-clause-puts g c = λ lines is. subst (λ (l : List ℕ). Puts g.H.Host.said g.H.Host.clock g.H.Host.since c.args.host.now c.put_all.new.host l) is c.in-Ok.ensures.all

pub returns-in-Err-clause-puts : goal.returns-in-Err-clause-puts
returns-in-Err-clause-puts g c = λ lines is.
    let part = c.put_all.ensures.part in
    inr (refl, (part.0, subst (λ (l : List ℕ). IsPrefix part.0 l) is part.1, part.2))

pub returns-in-Ok-clause-leaves : goal.returns-in-Ok-clause-leaves
returns-in-Ok-clause-leaves g c = record { leaves = c.put_all.ensures.leaves; disk = omega (arith, c.put_all.ensures.disk_faults); out = c.put_all.ensures.out_faults }

pub returns-in-Err-clause-leaves : goal.returns-in-Err-clause-leaves
returns-in-Err-clause-leaves g c = record { leaves = c.put_all.ensures.leaves; disk = omega (arith, c.put_all.ensures.disk_faults); out = c.put_all.ensures.out_faults }

pub returns-in-Err-clause-write : goal.returns-in-Err-clause-write
returns-in-Err-clause-write g c = inr (refl, c.in-Err.ensures.cause)
