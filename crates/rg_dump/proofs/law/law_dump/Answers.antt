use Rattle.rg_dump.proofs.Legal.{legal_read, legal_dump, empty_dump}
use Rattle.rg_dump.proofs.law.law_dump.Goals as goal

pub returns : goal.returns
returns c = record {
  rows = λ shape events bytes framed legal. legal_dump shape bytes events framed legal;
  undamaged = λ shape events bytes framed legal. (legal_read shape bytes events legal).1;
  empty = λ bytes has. empty_dump bytes has;
}
