use Rattle.std.proofs.Common.{◌≡◌, ◌≤◌, [], take}
use Rattle.rg_metric.specs.Answers.{distinct_after}
use Rattle.rg_scratch.specs.Asking.{counted}
use Rattle.rg_scratch.proofs.folding.different.Given as goal

abbrev pub invariant-places : goal.invariant-places
invariant-places l = record {
  counted_so : l.count ≡ distinct_after [] (counted l.asking l.answered (take l.place l.events));
  few : l.count ≤ l.place;
}
