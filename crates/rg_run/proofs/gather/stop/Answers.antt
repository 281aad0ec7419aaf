use Rattle.std.proofs.Common.{inl, inr}
use Rattle.rg_run.proofs.Gathering.{held_moments, held_stopped}
use Rattle.rg_run.proofs.gather.stop.Goals as goal

pub returns-in-Ok-clause-stops : goal.returns-in-Ok-clause-stops
returns-in-Ok-clause-stops g c = record {
  moments = λ plan course held. held_moments g.K.Task.view plan course c.args.task.now c.put_gathered.new.task c.args.gathered.now.items held c.put_gathered.ensures.puts.leaves c.put_gathered.ensures.puts.part;
  stopped = λ plan course held. inr (held_stopped g.K.Task.view plan course c.args.task.now c.put_gathered.new.task c.args.gathered.now.items held c.put_gathered.ensures.puts.leaves c.in-Ok.ensures.puts.all);
}

pub returns-in-Err-clause-stops : goal.returns-in-Err-clause-stops
returns-in-Err-clause-stops g c = record {
  moments = λ plan course held. held_moments g.K.Task.view plan course c.args.task.now c.put_gathered.new.task c.args.gathered.now.items held c.put_gathered.ensures.puts.leaves c.put_gathered.ensures.puts.part;
  stopped = λ plan course held. inl c.in-Err.ensures.faults;
}

pub returns-in-Ok-clause-only : goal.returns-in-Ok-clause-only
returns-in-Ok-clause-only g c = c.put_gathered.ensures.only

pub returns-in-Err-clause-only : goal.returns-in-Err-clause-only
returns-in-Err-clause-only g c = c.put_gathered.ensures.only
