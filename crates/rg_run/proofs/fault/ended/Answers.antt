use Rattle.std.proofs.Common.{Err, ◌∙◌, ap}
use Rattle.rg_run.proofs.fault.ended.Goals as goal

pub turn_fault-requires : goal.turn_fault-requires
turn_fault-requires c = record { ended = λ is. c.requires.ended (c.in-Err.is ∙ ap (λ v. Err v) is) }
