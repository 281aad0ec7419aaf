use Rattle.std.proofs.lemmas.Result.{on_ok_weaker}
use Rattle.rg_event.specs.Tagged.{IsLegal}
use Rattle.rg_multiset.specs.Reading.{is_before}
use Rattle.rg_multiset.proofs.Laws.{counts_more}
use Rattle.rg_distinct.proofs.distinct.DistinctAggregate.add.Goals as goal

pub returns-clause-ok : goal.returns-clause-ok
returns-clause-ok c =
    on_ok_weaker c.add.result (λ one values are. counts_more IsLegal is_before c.args.value.now c.args.self.now.tally c.add.new.self values one c.add.ensures.sound are) c.add.ensures.ok
