use Rattle.rg_pipe.proofs.Chains.{hands_front, hands_all}
use Rattle.rg_pipe.proofs.Requests.{part_short}
use Rattle.rg_pipe.proofs.law.law_pieces.Goals as goal

pub returns-clause-front : goal.returns-clause-front
returns-clause-front c = hands_front

pub returns-clause-all : goal.returns-clause-all
returns-clause-all c = hands_all

pub returns-clause-lacks : goal.returns-clause-lacks
returns-clause-lacks c = part_short
