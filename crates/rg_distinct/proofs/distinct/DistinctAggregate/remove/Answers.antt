use Rattle.std.proofs.lemmas.Result.{on_err_weaker, on_ok_weaker}
use Rattle.rg_event.specs.Tagged.{IsLegal}
use Rattle.rg_multiset.specs.Reading.{is_before}
use Rattle.rg_multiset.proofs.Laws.{counts_first, counts_less, none_first}
use Rattle.rg_distinct.proofs.distinct.DistinctAggregate.remove.Goals as goal

pub returns-clause-ok : goal.returns-clause-ok
returns-clause-ok c =
    on_ok_weaker c.remove.result (λ one values are. counts_less IsLegal is_before c.args.value.now c.remove.new.self c.args.self.now.tally values one c.remove.ensures.sound are) c.remove.ensures.ok

pub returns-clause-unfit : goal.returns-clause-unfit
returns-clause-unfit c =
    on_err_weaker c.remove.result (λ none values counts. none_first c.args.value.now c.args.self.now.tally values none counts) c.remove.ensures.unfit

pub returns-clause-begins : goal.returns-clause-begins
returns-clause-begins c =
    on_ok_weaker c.remove.result (λ one. counts_first IsLegal c.args.value.now c.remove.new.self c.args.self.now.tally one c.remove.ensures.sound c.args.self.now.sound) c.remove.ensures.ok
