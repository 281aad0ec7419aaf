use Rattle.rg_serve_spec.proofs.Rows.{same_replies, same_events}
use Rattle.rg_serve_spec.proofs.law_rows.Goals as goal

pub returns-clause-replies : goal.returns-clause-replies
returns-clause-replies c = same_replies

pub returns-clause-events : goal.returns-clause-events
returns-clause-events c = same_events
