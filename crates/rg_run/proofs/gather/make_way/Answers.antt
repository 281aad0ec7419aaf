use Rattle.std.proofs.Common.{inl, inr}
use Rattle.std.proofs.lemmas.Result.{on_ok_weaker}
use Rattle.rg_run.proofs.Called.{only_none, put_moments, put_awaits}
use Rattle.rg_run.proofs.Replied.{still_on_course}
use Rattle.rg_run.proofs.gather.make_way.Goals as goal

pub returns-then-has_room-clause-makes : goal.returns-then-has_room-clause-makes
returns-then-has_room-clause-makes g c = record {
  moments = λ plan course offset items a. still_on_course g.K.Task.view g.met.K.Task.only_now g.met.K.Task.sinks plan course offset items c.args.task.now c.args.gathered.now.items a;
  awaits = λ plan course offset items a. a;
  way = inl (c.has_room.ensures c.if-has_room.true);
}

pub returns-then-has_room-clause-only : goal.returns-then-has_room-clause-only
returns-then-has_room-clause-only g c = only_none g.K.Task.view g.K.Task.disk_faults g.K.Task.out_faults g.met.K.Task.only_now g.met.K.Task.sinks c.args.task.now

pub returns-clause-makes : goal.returns-clause-makes
returns-clause-makes g c =
    let put = c.put_gathered.ensures in
    record {
      moments = λ plan course offset items a. put_moments g.K.Task.view g.K.Task.disk_faults g.K.Task.out_faults c.args.task.now c.put_gathered.new.task c.args.gathered.now.items put.only plan course offset items a c.put_gathered.result put.puts;
      awaits = λ plan course offset items a. put_awaits g.K.Task.view g.K.Task.disk_faults g.K.Task.out_faults c.args.task.now c.put_gathered.new.task c.args.gathered.now.items put.only plan course offset items a c.put_gathered.result put.puts c.put_gathered.new.gathered.items put.empty;
      way = on_ok_weaker c.put_gathered.result (λ _. inr put.empty) put.puts.all;
    }
