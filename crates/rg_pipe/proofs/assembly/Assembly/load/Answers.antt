use Rattle.std.proofs.Common.{refl}
use Rattle.rg_pipe.proofs.Findings.{part_none}
use Rattle.rg_pipe.proofs.assembly.Assembly.load.Goals as goal

pub returns-then-self : goal.returns-then-self
returns-then-self c = rw (← c.self.view_is, c.if-self.true) (part_none, refl)
