use Rattle.rg_grammar.proofs.Exact.{exact_only}
use Rattle.rg_grammar.proofs.law_stops_only.Goals as goal

pub returns : goal.returns
returns c = exact_only
