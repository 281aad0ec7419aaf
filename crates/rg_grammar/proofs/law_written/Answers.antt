use Rattle.rg_grammar.proofs.Printed.{means, no_deeper}
use Rattle.rg_grammar.proofs.law_written.Goals as goal

pub returns : goal.returns
returns c = record { means = means; shallow = no_deeper }
