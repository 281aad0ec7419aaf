use Rattle.std.proofs.Common.{◌≡◌, ◌-◌, ◌++◌, [], length}
use Rattle.rg_agg.specs.Held.{pairs_bytes}
use Rattle.rg_multiset.specs.Pairs.{IsTally}
use Rattle.rg_multiset.specs.Reading.{more_pairs_at}
use Rattle.rg_multiset.proofs.reading.read_pairs.Given as goal

abbrev pub invariant-loop-done : goal.invariant-loop-done
invariant-loop-done g l = record {
  order : g.P.PairList.below l.made ≡ g.P.PairList.below l.fn.list;
  most : g.P.PairList.most l.made ≡ g.P.PairList.most l.fn.list;
  counted : length (g.P.PairList.pairs l.made) ≡ l.done;
  to_come : more_pairs_at g.P.PairList.value_at (g.P.PairList.below l.fn.list) (g.P.PairList.most l.fn.list) [] l.count l.fn.from ≡ more_pairs_at g.P.PairList.value_at (g.P.PairList.below l.fn.list) (g.P.PairList.most l.fn.list) (g.P.PairList.pairs l.made) (l.count - l.done) l.from;
  taken : l.fn.from ≡ pairs_bytes (g.P.PairList.pairs l.made) ++ l.from;
  sound : IsTally g.P.PairList.legal (g.P.PairList.below l.fn.list) (g.P.PairList.pairs l.made);
}
