use Rattle.rg_run.proofs.Called.{put_moments, put_awaits}
use Rattle.rg_run.proofs.turning.Turning.flush.Goals as goal

pub returns-clause-moments : goal.returns-clause-moments
returns-clause-moments g c = λ plan course items a.
    let put = c.put_gathered.ensures in
    let t = c.args.self.now in
    put_moments g.K.Task.view g.K.Task.disk_faults g.K.Task.out_faults c.args.task.now c.put_gathered.new.task t.gathered.items put.only plan course t.offset items a c.put_gathered.result put.puts

pub returns-clause-awaits : goal.returns-clause-awaits
returns-clause-awaits g c = λ plan course items a.
    let put = c.put_gathered.ensures in
    let t = c.args.self.now in
    put_awaits g.K.Task.view g.K.Task.disk_faults g.K.Task.out_faults c.args.task.now c.put_gathered.new.task t.gathered.items put.only plan course t.offset items a c.put_gathered.result put.puts c.put_gathered.new.gathered.items put.empty

pub returns-clause-keeps : goal.returns-clause-keeps
returns-clause-keeps g c = c.put_gathered.ensures.only.keeps

pub returns-clause-files : goal.returns-clause-files
returns-clause-files g c = c.put_gathered.ensures.only.files
