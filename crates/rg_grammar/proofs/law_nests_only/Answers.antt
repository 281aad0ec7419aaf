use Rattle.rg_grammar.proofs.Exact.{exact_depth_only}
use Rattle.rg_grammar.proofs.law_nests_only.Goals as goal

pub returns : goal.returns
returns c = exact_depth_only
