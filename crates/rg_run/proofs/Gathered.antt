-- A run that goes on after what was gathered was put, and one whose put failed.
use Rattle.std.proofs.Common.{ℕ, Err, ap, arith}
use Rattle.rg_config.specs.Plans.{Planned}
use Rattle.rg_task.specs.View.{View}
use Rattle.rg_run.specs.Answered.{CountsGrow}
use Rattle.rg_run.specs.Turned.{StopsFor}
use Rattle.rg_run.specs.declared.fault.RunFault.{RunFault}
use Rattle.rg_run.specs.declared.fault.RunFault.TheVariants.{Disk, Damaged, SchemaDiffers, BadState, Gap, Read, Limit, Write}
use Rattle.rg_run.proofs.Causes.{err_is}

module _ {K I : Type 0} (view : View K) (disk_faults out_faults : K → ℕ) (faults : I → ℕ) (input input_mid input_then : I) (old mid new : K) where
  -- no count fell in two calls
  pub counts_join : CountsGrow view disk_faults out_faults faults input input_mid old mid → CountsGrow view disk_faults out_faults faults input_mid input_then mid new → CountsGrow view disk_faults out_faults faults input input_then old new
  counts_join first second = record {
    goes = view.goes_join old mid new first.goes second.goes;
    later = omega (arith, first.later, second.later);
    disk_faults_grow = omega (arith, first.disk_faults_grow, second.disk_faults_grow);
    out_faults_grow = omega (arith, first.out_faults_grow, second.out_faults_grow);
  }

  -- a line was not answered, after others were
  pub why_then : {A B : Type 0} (plan : Planned) (taken : ℕ) (fault : RunFault) → ((n : ℕ) → view.node plan n old → view.node plan n mid) → (view.placed plan old → view.placed plan mid) → CountsGrow view disk_faults out_faults faults input input_mid old mid
      → StopsFor view disk_faults out_faults faults {A = A} plan taken (Err fault) input_mid input_then mid new → StopsFor view disk_faults out_faults faults {A = B} plan taken (Err fault) input input_then old new
  why_then plan taken fault node placed counts why = record {
    bad = λ n runs is. why.bad n (node n runs) (ap (λ f. Err f) (err_is fault (BadState n) is));
    undamaged = λ p was is. why.undamaged p (placed was) (ap (λ f. Err f) (err_is fault (Damaged p) is));
    damaged = λ p is. why.damaged p (ap (λ f. Err f) (err_is fault (Damaged p) is));
    read = λ is. let rose = why.read (ap (λ f. Err f) (err_is fault Read is)) in omega (arith, rose, counts.later);
    limit = λ is. why.limit (ap (λ f. Err f) (err_is fault Limit is));
    write = λ is. let rose = why.write (ap (λ f. Err f) (err_is fault Write is)) in omega (arith, rose, counts.out_faults_grow);
    disk = λ is. let rose = why.disk (ap (λ f. Err f) (err_is fault Disk is)) in omega (arith, rose, counts.disk_faults_grow);
    differs = λ is. why.differs (ap (λ f. Err f) (err_is fault SchemaDiffers is));
    gap = λ n is. why.gap n (ap (λ f. Err f) (err_is fault (Gap n) is));
  }
