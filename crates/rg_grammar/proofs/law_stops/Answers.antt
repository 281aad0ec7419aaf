use Rattle.rg_grammar.proofs.Exact.{exact}
use Rattle.rg_grammar.proofs.law_stops.Goals as goal

pub returns : goal.returns
returns c = exact
