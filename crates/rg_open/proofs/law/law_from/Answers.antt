use Rattle.rg_open.proofs.Froms.{from_is_one}
use Rattle.rg_open.proofs.law.law_from.Goals as goal

pub returns : goal.returns
returns c = record { one = from_is_one }
