use Rattle.std.proofs.Common.{[]}
use Rattle.rg_token.proofs.Laid.{laid}
use Rattle.rg_token.proofs.lex.law_layout.Goals as goal

pub returns : goal.returns
returns c = λ items h. laid [] items h
