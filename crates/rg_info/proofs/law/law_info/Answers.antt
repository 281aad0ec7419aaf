use Rattle.rg_info.proofs.InfoLaws.{info_one, info_legal, info_empty}
use Rattle.rg_info.proofs.law.law_info.Goals as goal

pub returns : goal.returns
returns c = record { one = info_one; legal = info_legal; empty = info_empty }
