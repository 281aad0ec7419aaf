use Rattle.rg_log.proofs.Exact.{exact, events_legal}
use Rattle.rg_log.proofs.Reading.{stages_read, events_read, next_read, no_events, damaged_events}
use Rattle.rg_log.proofs.law_events.Goals as goal

pub returns : goal.returns
returns c = record {
  stages = stages_read c.law_frames.ensures.defined;
  reads = events_read c.law_frames.ensures.defined;
  none = no_events c.law_frames.ensures.defined;
  damaged = damaged_events c.law_frames.ensures.undefined;
  next = next_read c.law_frames.ensures.defined;
  exact = exact (events_read c.law_frames.ensures.defined) (no_events c.law_frames.ensures.defined);
  legal = events_legal;
}
