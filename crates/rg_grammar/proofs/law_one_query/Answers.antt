use Rattle.rg_grammar.proofs.Complete.{one_query}
use Rattle.rg_grammar.proofs.law_one_query.Goals as goal

pub returns : goal.returns
returns c = one_query
