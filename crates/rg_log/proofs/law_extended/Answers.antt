use Rattle.rg_log.proofs.Extending.{length-extended, rising-extended, next-extended, time-extended}
use Rattle.rg_log.proofs.law_extended.Goals as goal

pub returns : goal.returns
returns c = record { count = length-extended; rising = rising-extended; next = next-extended; time = time-extended }
