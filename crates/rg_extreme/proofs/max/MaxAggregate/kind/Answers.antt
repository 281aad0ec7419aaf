use Rattle.rg_extreme.specs.declared.side.Side.TheVariants.{Greatest}
use Rattle.rg_extreme.proofs.max.MaxAggregate.kind.Goals as goal

pub returns-clause-like : goal.returns-clause-like
returns-clause-like c = λ values value stands all. c.kind.ensures.like Greatest values value stands all
