use Rattle.std.proofs.Common.{rules, inl}
use Rattle.rg_event.proofs.Decoding.{agrees_short}
use Rattle.rg_event.proofs.TaggedValues.{tagged_short, tagged_unknown, agrees_tagged}
use Rattle.rg_event.proofs.tagged.read_tagged.Goals as goal

pub returns-in_err-u8-clause-agrees : goal.returns-in_err-u8-clause-agrees
returns-in_err-u8-clause-agrees c = agrees_short _ c.from_residual.result _ c.from_residual.ensures.1 (tagged_short _ (search rules))

pub returns-in-Some-clause-agrees : goal.returns-in-Some-clause-agrees
returns-in-Some-clause-agrees c =
    agrees_tagged _ c.in_ok-u8.field-0 c.u8.new.self c.in-Some.kind c.read_value.result c.read_value.new.from c.in_ok-u8.ensures.ok (search rules) c.read_value.ensures.agrees

pub returns-in-None-clause-agrees : goal.returns-in-None-clause-agrees
returns-in-None-clause-agrees c = inl (tagged_unknown _ c.in_ok-u8.field-0 c.u8.new.self c.in_ok-u8.ensures.ok (search rules))
