use Rattle.std.proofs.Common.{rules, inl}
use Rattle.rg_event.proofs.Decoding.{flag_false, flag_true, flag_bad, flag_short, agrees_short}
use Rattle.rg_event.proofs.codec.decoder.read_flag.Goals as goal

pub returns-in_err-u8-clause-agrees : goal.returns-in_err-u8-clause-agrees
returns-in_err-u8-clause-agrees c = agrees_short _ c.from_residual.result _ c.from_residual.ensures.1 (flag_short _ _ (search rules))

pub returns-in-0-clause-agrees : goal.returns-in-0-clause-agrees
returns-in-0-clause-agrees c = flag_false _ _ c.in_ok-u8.field-0 _ c.in_ok-u8.ensures.ok c.in-0.is

pub returns-in-1-clause-agrees : goal.returns-in-1-clause-agrees
returns-in-1-clause-agrees c = flag_true _ _ c.in_ok-u8.field-0 _ c.in_ok-u8.ensures.ok c.in-1.is

pub returns-in_default-clause-agrees : goal.returns-in_default-clause-agrees
returns-in_default-clause-agrees c = inl (flag_bad _ _ c.in_ok-u8.field-0 _ c.in_ok-u8.ensures.ok (search rules) (search rules))
