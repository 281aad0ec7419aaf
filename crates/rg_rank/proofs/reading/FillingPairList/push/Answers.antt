use Rattle.std.proofs.Common.{refl, arith}
use Rattle.rg_agg.specs.Numbers.{value_of}
use Rattle.rg_agg.specs.Stands.{IsNumber}
use Rattle.rg_agg.specs.Unbeaten.{is_less}
use Rattle.rg_rank.specs.Shapes.{listed}
use Rattle.rg_multiset.proofs.Laws.{tally_pushed}
use Rattle.rg_rank.proofs.ReadRanks.{pushed_sound}
use Rattle.rg_rank.proofs.Tallies.{ranking_of}
use Rattle.rg_rank.proofs.reading.FillingPairList.push.Goals as goal

pub push-requires : goal.push-requires
push-requires c =
    ranking_of _ (tally_pushed IsNumber is_less 1099511627776 (listed c.args.self.now.tree) _ (value_of c.args.key, c.args.count) (omega arith) c.args.self.now.sound c.requires.legal c.requires.behind c.requires.count refl)

pub invariant_of-self : goal.invariant_of-self
invariant_of-self c = record {
  sound = pushed_sound (listed c.args.self.now.tree) (listed c.push.new.self) (value_of c.args.key, c.args.count) c.push.result c.args.self.now.sound c.requires.legal c.requires.behind c.requires.count c.push.ensures.ok c.push.ensures.err;
}
