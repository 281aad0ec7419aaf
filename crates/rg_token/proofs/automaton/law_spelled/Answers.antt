use Rattle.rg_token.proofs.Spelling.{spelled_read, read_spelled}
use Rattle.rg_token.proofs.automaton.law_spelled.Goals as goal

pub returns : goal.returns
returns c = record { read = spelled_read; only = read_spelled }
