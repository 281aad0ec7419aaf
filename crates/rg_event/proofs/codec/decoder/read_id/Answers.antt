use Rattle.std.proofs.Common.{rules}
use Rattle.rg_event.proofs.Decoding.{id_read, id_short, agrees_short}
use Rattle.rg_event.proofs.codec.decoder.read_id.Goals as goal

pub returns-in_err-u64-clause-agrees : goal.returns-in_err-u64-clause-agrees
returns-in_err-u64-clause-agrees c = agrees_short _ c.from_residual.result _ c.from_residual.ensures.1 (id_short _ (search rules))

pub returns-clause-agrees : goal.returns-clause-agrees
returns-clause-agrees c = id_read _ c.in_ok-u64.field-0 c.u64.new.self (search rules) c.in_ok-u64.ensures.ok
