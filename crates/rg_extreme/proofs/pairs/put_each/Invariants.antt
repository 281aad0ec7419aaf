use Rattle.std.proofs.Common.{◌≡◌, ◌++◌, drop}
use Rattle.rg_agg.specs.Held.{pairs_bytes}
use Rattle.rg_bytes.specs.Keeps.{Keeps}
use Rattle.rg_extreme.specs.States.{as_pairs}
use Rattle.rg_extreme.proofs.pairs.put_each.Given as goal

abbrev pub invariant-loop-place : goal.invariant-loop-place
invariant-loop-place l = record {
  to_come : l.out.items ++ pairs_bytes (as_pairs (drop l.place l.pairs.items)) ≡ l.fn.out.items ++ pairs_bytes (as_pairs l.pairs.items);
  keeps : Keeps l.fn.out.items l.out.items;
}
