use Rattle.std.proofs.Common.{ap, ◌∙◌}
use Rattle.rg_agg.specs.declared.fault.StateFault.TheVariants.{Memory}
use Rattle.rg_bytes.proofs.Laws.{returns_it}
use Rattle.rg_multiset.specs.Reading.{pairs_at}
use Rattle.rg_multiset.proofs.ReadPairs.{tally_back}
use Rattle.rg_multiset.proofs.tally.Tally.read.Goals as goal

pub returns-clause-reads_back : goal.returns-clause-reads_back
returns-clause-reads_back g c = λ pairs rest sound some stood.
    let value_at = g.K.Ranked.value_at in
    let below = g.K.Ranked.below in
    returns_it Memory (λ tally. tally) (pairs_at value_at below c.args.tag c.args.from.now) c.read_list.result c.read_list.new.from pairs rest c.read_list.ensures.agrees
    (ap (pairs_at value_at below c.args.tag) stood ∙ tally_back g.K.Ranked.legal value_at below g.met.K.Ranked.reads_back c.args.tag pairs rest sound some)
