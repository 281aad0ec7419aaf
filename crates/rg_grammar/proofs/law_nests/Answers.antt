use Rattle.rg_grammar.proofs.Exact.{exact_depth, exact_depth_in}
use Rattle.rg_grammar.proofs.law_nests.Goals as goal

pub returns : goal.returns
returns c = record { at_token = exact_depth; in_tokens = exact_depth_in }
