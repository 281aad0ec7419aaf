use Rattle.rg_log.proofs.Growing.{one_stages_in, one_shape_in, one_list}
use Rattle.rg_log.proofs.Plain.{as_before, events_before, plain_logged}
use Rattle.rg_log.proofs.Staging.{events_of_schema}
use Rattle.rg_log.proofs.law_stages.Goals as goal

pub returns : goal.returns
returns c = record {
  one = one_stages_in c.law_frames.ensures.unique;
  one_schema = one_shape_in c.law_frames.ensures.unique;
  one_list = one_list c.law_frames.ensures.unique;
  of = events_of_schema;
  as_before = as_before;
  same_events = plain_logged;
  events_before = events_before;
}
