use Rattle.std.proofs.Common.{List, ℕ, subst}
use Rattle.rg_host.specs.Puts.{IsPrefix, Puts}
use Rattle.rg_run.proofs.gather.put_gathered.Goals as goal

pub returns-in-Ok-clause-puts : goal.returns-in-Ok-clause-puts
returns-in-Ok-clause-puts g c =
    let p = c.put.ensures.part in
    record {
      all = subst (λ (l : List ℕ). Puts g.K.Task.view.said g.K.Task.view.clock g.K.Task.view.since c.args.task.now c.put.new.self l) c.deref.ensures.value c.in-Ok.ensures.all;
      part = (p.0, subst (λ (l : List ℕ). IsPrefix p.0 l) c.deref.ensures.value p.1, p.2);
      leaves = c.put.ensures.leaves;
    }

pub returns-in-Ok-clause-only : goal.returns-in-Ok-clause-only
returns-in-Ok-clause-only g c = record { keeps = c.put.ensures.keeps; files = c.put.ensures.leaves; disk_faults_stay = c.put.ensures.disk_faults; out_faults_grow = c.put.ensures.out_faults }

pub returns-in-Err-clause-puts : goal.returns-in-Err-clause-puts
returns-in-Err-clause-puts g c =
    let p = c.put.ensures.part in
    record {
      all = tt;
      part = (p.0, subst (λ (l : List ℕ). IsPrefix p.0 l) c.deref.ensures.value p.1, p.2);
      leaves = c.put.ensures.leaves;
    }

pub returns-in-Err-clause-only : goal.returns-in-Err-clause-only
returns-in-Err-clause-only g c = record { keeps = c.put.ensures.keeps; files = c.put.ensures.leaves; disk_faults_stay = c.put.ensures.disk_faults; out_faults_grow = c.put.ensures.out_faults }
