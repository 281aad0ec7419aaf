use Rattle.rg_extreme.specs.declared.side.Side.TheVariants.{Least}
use Rattle.rg_extreme.proofs.min.MinAggregate.kind.Goals as goal

pub returns-clause-like : goal.returns-clause-like
returns-clause-like c = λ values value stands all. c.kind.ensures.like Least values value stands all
