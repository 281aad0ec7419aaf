use Rattle.std.proofs.Common.{All, take}
use Rattle.rg_past.specs.Listed.{Spells}
use Rattle.rg_restore.proofs.vec_names.are_spelled.Given as goal

abbrev pub invariant-spots : goal.invariant-spots
invariant-spots l = All (Spells l.past) (take l.spot-index l.spots)
