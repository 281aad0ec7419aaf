use Rattle.std.proofs.Common.{◌≤◌, take}
use Rattle.rg_scratch.specs.Asking.{counted}
use Rattle.rg_scratch.specs.Tallies.{IsTally}
use Rattle.rg_scratch.proofs.folding.tally.Given as goal

abbrev pub invariant-places : goal.invariant-places
invariant-places l = record {
  tallied : IsTally l.tally.count l.tally.sum l.tally.squares l.tally.ends (counted l.asking l.answered (take l.place l.events));
  few : l.tally.count ≤ l.place;
}
