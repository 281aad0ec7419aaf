use Rattle.rg_grammar.proofs.Complete.{found_reads}
use Rattle.rg_grammar.proofs.law_found.Goals as goal

pub returns : goal.returns
returns c = found_reads
