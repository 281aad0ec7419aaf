use Rattle.std.proofs.Common.{sym}
use Rattle.rg_agg.specs.declared.fault.StateFault.TheVariants.{Memory}
use Rattle.rg_bytes.proofs.Laws.{agrees_stopped}
use Rattle.rg_multiset.proofs.ReadPairs.{pairs_length_stops, pairs_behind, some_sum}
use Rattle.rg_multiset.proofs.reading.read_tagged.Goals as goal

pub returns-in_err-count-clause-agrees : goal.returns-in_err-count-clause-agrees
returns-in_err-count-clause-agrees g c = agrees_stopped Memory _ _ c.from_residual.result _ _ c.from_residual.ensures.1 (pairs_length_stops _ _ _ _ _ c.in_err-count.ensures.agrees)

pub returns-clause-agrees : goal.returns-clause-agrees
returns-clause-agrees g c =
    rw (pairs_behind g.P.PairList.value_at (g.P.PairList.below c.args.list) _ _ _ _ c.in_ok-count.ensures.agrees, sym c.requires.most)
    c.read_pairs.ensures.agrees

pub returns-clause-some : goal.returns-clause-some
returns-clause-some g c = some_sum g.P.PairList.legal (g.P.PairList.below c.args.list) g.P.PairList.pairs c.in_ok-count.count c.read_pairs.result c.in_ok-count.ensures.some c.read_pairs.ensures.count c.read_pairs.ensures.sound
