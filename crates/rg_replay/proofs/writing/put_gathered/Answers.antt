use Rattle.std.proofs.Common.{inr, ◌∙◌}
use Rattle.rg_replay.proofs.writing.put_gathered.Goals as goal

pub returns-clause-puts : goal.returns-clause-puts
returns-clause-puts g c = λ lines is. inr (c.in-Ok.ensures.puts lines (c.deref.ensures.value ∙ is), c.clear.ensures.items)

pub returns-in-Err-clause-puts : goal.returns-in-Err-clause-puts
returns-in-Err-clause-puts g c = λ lines is. c.in-Err.ensures.puts lines (c.deref.ensures.value ∙ is)
