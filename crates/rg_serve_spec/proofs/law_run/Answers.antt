use Rattle.rg_serve_spec.proofs.Joined.{next_within, offset_is, run_events, run_text}
use Rattle.rg_serve_spec.proofs.law_run.Goals as goal

pub returns-clause-offset : goal.returns-clause-offset
returns-clause-offset c = λ expected requests. offset_is requests expected

pub returns-clause-events : goal.returns-clause-events
returns-clause-events c = run_events

pub returns-clause-text : goal.returns-clause-text
returns-clause-text c = run_text

pub returns-clause-next : goal.returns-clause-next
returns-clause-next c = next_within
