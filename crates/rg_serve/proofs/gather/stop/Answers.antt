use Rattle.std.proofs.Common.{inl, inr}
use Rattle.rg_serve.proofs.Within.{held_moments, held_halted}
use Rattle.rg_serve.proofs.gather.stop.Goals as goal

pub returns-in-Ok-clause-stops : goal.returns-in-Ok-clause-stops
returns-in-Ok-clause-stops g c = record {
  moments = λ plan e held. held_moments g.K.Task.view plan e c.args.task.now c.put_gathered.new.task c.args.gathered.now.items held c.put_gathered.ensures.puts.leaves c.put_gathered.ensures.puts.part;
  halted = λ plan e held. inr (held_halted g.K.Task.view plan e c.args.task.now c.put_gathered.new.task c.args.gathered.now.items held c.put_gathered.ensures.puts.leaves c.in-Ok.ensures.puts.all);
}

pub returns-in-Err-clause-stops : goal.returns-in-Err-clause-stops
returns-in-Err-clause-stops g c = record {
  moments = λ plan e held. held_moments g.K.Task.view plan e c.args.task.now c.put_gathered.new.task c.args.gathered.now.items held c.put_gathered.ensures.puts.leaves c.put_gathered.ensures.puts.part;
  halted = λ plan e held. inl c.in-Err.ensures.faults;
}
