use Rattle.std.proofs.Common.{◌∙◌, sym, Some}
use Rattle.rg_agg.specs.Numbers.{value_of}
use Rattle.rg_agg.specs.Stands.{IsEnd}
use Rattle.rg_agg.proofs.Ends.{end_like}
use Rattle.rg_agg.proofs.last.LastAggregate.kind.Goals as goal

pub returns-in-Some-clause-like : goal.returns-in-Some-clause-like
returns-in-Some-clause-like c = λ values value stands all.
    let kept : IsEnd c.args.self.now.count (Some (value_of c.in-Some.number)) values = rw c.in-Some.is at stands in
    end_like _ (value_of c.in-Some.number) values value kept all ∙ sym c.kind.ensures
