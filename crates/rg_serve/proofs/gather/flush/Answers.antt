use Rattle.std.proofs.Common.{List, ℕ, sym, subst}
use Rattle.rg_serve.specs.Serving.{IsWithin}
use Rattle.rg_serve.proofs.Within.{held_within, held_moments, put_within}
use Rattle.rg_serve.proofs.gather.flush.Goals as goal

pub returns-in-Ok-clause-flushes : goal.returns-in-Ok-clause-flushes
returns-in-Ok-clause-flushes g c =
    let p = c.put_gathered.ensures in
    let old = c.args.task.now in
    let new = c.put_gathered.new.task in
    record {
      moments = λ plan e replies w. held_moments g.K.Task.view plan e old new c.args.gathered.now.items (held_within g.K.Task.view plan e replies old c.args.gathered.now.items w) p.puts.leaves p.puts.part;
      within = λ plan e replies w. subst (λ (l : List ℕ). IsWithin g.K.Task.view plan e replies new l) (sym p.empty)
          (put_within g.K.Task.view plan e replies old new c.args.gathered.now.items p.puts.leaves p.only.keeps c.in-Ok.ensures.puts.all w);
    }

pub returns-in-Err-clause-flushes : goal.returns-in-Err-clause-flushes
returns-in-Err-clause-flushes g c =
    let p = c.put_gathered.ensures in
    record {
      moments = λ plan e replies w. held_moments g.K.Task.view plan e c.args.task.now c.put_gathered.new.task c.args.gathered.now.items (held_within g.K.Task.view plan e replies c.args.task.now c.args.gathered.now.items w) p.puts.leaves p.puts.part;
      within = λ plan e replies w. tt;
    }
