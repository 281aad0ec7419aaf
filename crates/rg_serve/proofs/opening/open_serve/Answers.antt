use Rattle.rg_serve.proofs.Opened.{opened}
use Rattle.rg_serve.proofs.opening.open_serve.Goals as goal

pub returns-in-Ok-clause-awaits : goal.returns-in-Ok-clause-awaits
returns-in-Ok-clause-awaits g c plan e o =
    opened g.K.Task.view plan e c.args.from c.args.task.now c.tell_open.new.gathered.items o (rw c.requires at c.in-Ok.ensures.gathers.all) c.in-Ok.ensures.gathers.small
