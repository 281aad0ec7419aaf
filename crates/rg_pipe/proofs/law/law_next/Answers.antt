use Rattle.rg_pipe.proofs.Chains.{stream_fed, stream_handed, stream_ended, stream_refused}
use Rattle.rg_pipe.proofs.Handings.{next_line}
use Rattle.rg_pipe.proofs.law.law_next.Goals as goal

pub returns-clause-fed : goal.returns-clause-fed
returns-clause-fed c = stream_fed

pub returns-clause-handed : goal.returns-clause-handed
returns-clause-handed c = stream_handed

pub returns-clause-ended : goal.returns-clause-ended
returns-clause-ended c = stream_ended

pub returns-clause-refused : goal.returns-clause-refused
returns-clause-refused c = stream_refused

pub returns-clause-line : goal.returns-clause-line
returns-clause-line c = next_line
