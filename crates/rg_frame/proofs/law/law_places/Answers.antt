use Rattle.rg_frame.proofs.Payloads.{holds_payload, torn_payload, closed_payload, closed_torn, damaged_torn}
use Rattle.rg_frame.proofs.law.law_places.Goals as goal

pub returns-clause-whole : goal.returns-clause-whole
returns-clause-whole c = holds_payload

pub returns-clause-closed : goal.returns-clause-closed
returns-clause-closed c = closed_payload

pub returns-clause-torn : goal.returns-clause-torn
returns-clause-torn c = torn_payload

pub returns-clause-apart : goal.returns-clause-apart
returns-clause-apart c = closed_torn

pub returns-clause-damaged : goal.returns-clause-damaged
returns-clause-damaged c = damaged_torn
