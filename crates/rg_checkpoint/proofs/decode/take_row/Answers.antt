use Rattle.std.proofs.Common.{rules, refl}
use Rattle.rg_checkpoint.proofs.decode.take_row.Goals as goal

pub returns-clause-legal : goal.returns-clause-legal
returns-clause-legal c = record { node = search rules; key = c.in-Ok-take_key.ensures.legal; some = c.in-Ok-take_state.ensures.some; held = (c.in-Ok-take_state.state, refl) }
