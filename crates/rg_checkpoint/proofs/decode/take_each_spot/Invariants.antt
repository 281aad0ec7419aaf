use Rattle.std.proofs.Common.{◌≡◌, ◌-◌, ◌++◌, [], length}
use Rattle.std.specs.List.{All}
use Rattle.rg_bytes.specs.Reading.{list_bytes, more_at}
use Rattle.rg_checkpoint.specs.Base.{spot_bytes, IsSpot}
use Rattle.rg_checkpoint.specs.Reading.{next_spot_at}
use Rattle.rg_checkpoint.proofs.decode.take_each_spot.Given as goal

abbrev pub invariant-loop-done : goal.invariant-loop-done
invariant-loop-done l = record {
  counted : length l.spots.items ≡ l.done;
  to_come : more_at next_spot_at [] l.count l.fn.from ≡ more_at next_spot_at l.spots.items (l.count - l.done) l.from;
  taken : l.fn.from ≡ list_bytes spot_bytes l.spots.items ++ l.from;
  legal : All IsSpot l.spots.items;
}
