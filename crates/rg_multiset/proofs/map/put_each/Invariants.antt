use Rattle.std.proofs.Common.{◌≡◌, ◌++◌}
use Rattle.rg_agg.specs.Held.{pairs_bytes}
use Rattle.rg_bytes.specs.Keeps.{Keeps}
use Rattle.rg_multiset.specs.Pairs.{pairs_by}
use Rattle.rg_multiset.proofs.map.put_each.Given as goal

abbrev pub invariant-loop-key : goal.invariant-loop-key
invariant-loop-key g l = record {
  to_come : l.out.items ++ pairs_bytes (pairs_by g.K.Ranked.value_of l.key-iterator) ≡ l.fn.out.items ++ pairs_bytes (pairs_by g.K.Ranked.value_of l.map.entries);
  keeps : Keeps l.fn.out.items l.out.items;
}
