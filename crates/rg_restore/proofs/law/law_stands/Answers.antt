use Rattle.rg_restore.proofs.Standing.{stands}
use Rattle.rg_restore.proofs.law.law_stands.Goals as goal

pub returns : goal.returns
returns g c = λ past table plan spots many nodes placed spelled. stands (g.P.Past.spells past) plan (g.P.Past.events past) (g.T.Table.cell table) spots many nodes placed spelled
