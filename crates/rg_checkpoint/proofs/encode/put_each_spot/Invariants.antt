use Rattle.std.proofs.Common.{◌≡◌, ◌++◌, drop, take}
use Rattle.std.specs.List.{All}
use Rattle.rg_bytes.specs.Keeps.{Keeps}
use Rattle.rg_bytes.specs.Reading.{list_bytes}
use Rattle.rg_checkpoint.specs.Base.{spot_bytes, IsSpot}
use Rattle.rg_checkpoint.proofs.encode.put_each_spot.Given as goal

abbrev pub invariant-loop-spot : goal.invariant-loop-spot
invariant-loop-spot l = record {
  to_come : l.out.items ++ list_bytes spot_bytes (drop l.spot-index l.spots) ≡ l.fn.out.items ++ list_bytes spot_bytes l.spots;
  fits : All IsSpot (take l.spot-index l.spots);
  keeps : Keeps l.fn.out.items l.out.items;
}
