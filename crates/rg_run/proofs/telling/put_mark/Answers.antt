use Rattle.std.proofs.Common.{◌≡◌, [], ◌∷◌, ◌++◌, List, ℕ, refl, ap, ◌∙◌, subst, rules}
use Rattle.rg_host.specs.Puts.{IsPrefix, Puts}
use Rattle.rg_host.proofs.Laws.{leaves_files-none, puts-nothing}
use Rattle.rg_reply.specs.Texts.{mark_line}
use Rattle.rg_run.proofs.Called.{only_none}
use Rattle.rg_run.proofs.telling.put_mark.Goals as goal

pub returns-in-Err-clause-puts : goal.returns-in-Err-clause-puts
returns-in-Err-clause-puts g c = record {
  all = tt;
  part = ([], (_, refl), puts-nothing g.K.Task.view.said g.K.Task.view.clock g.K.Task.view.since c.args.task.now (λ t u m. g.met.K.Task.sinks _ t u m) (λ m now. g.met.K.Task.only_now _ m now));
  leaves = leaves_files-none g.K.Task.view.now g.K.Task.view.may g.K.Task.view.clock g.K.Task.view.since c.args.task.now (λ t u m. g.met.K.Task.sinks _ t u m) (λ m now. (g.met.K.Task.only_now _ m now).0);
}

pub returns-in-Err-clause-only : goal.returns-in-Err-clause-only
returns-in-Err-clause-only g c = only_none g.K.Task.view g.K.Task.disk_faults g.K.Task.out_faults g.met.K.Task.only_now g.met.K.Task.sinks c.args.task.now

pub returns-in-Ok-put-clause-puts : goal.returns-in-Ok-put-clause-puts
returns-in-Ok-put-clause-puts g c =
    let p = c.put.ensures.part in
    let empty : c.new-text.result.items ≡ [] = search rules in
    let is = c.deref.ensures.value ∙ c.in-Ok.ensures.ok ∙ ap (λ (l : List ℕ). l ++ (mark_line c.args.mark ++ 10 ∷ [])) empty in
    record {
      all = subst (λ (l : List ℕ). Puts g.K.Task.view.said g.K.Task.view.clock g.K.Task.view.since c.args.task.now c.put.new.self l) is c.in-Ok-put.ensures.all;
      part = (p.0, subst (λ (l : List ℕ). IsPrefix p.0 l) is p.1, p.2);
      leaves = c.put.ensures.leaves;
    }

pub returns-in-Ok-put-clause-only : goal.returns-in-Ok-put-clause-only
returns-in-Ok-put-clause-only g c = record { keeps = c.put.ensures.keeps; files = c.put.ensures.leaves; disk_faults_stay = c.put.ensures.disk_faults; out_faults_grow = c.put.ensures.out_faults }
