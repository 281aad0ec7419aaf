use Rattle.rg_log.proofs.Growing.{begins_log, begun_log, in_force_of, one_schema, adds_log, added_log, grows_log, grown_log}
use Rattle.rg_log.proofs.law_log.Goals as goal

pub returns : goal.returns
returns c = record {
  one = one_schema c.law_frames.ensures.unique;
  of_log = in_force_of c.law_frames.ensures.unique;
  begins = begins_log;
  begun = begun_log;
  adds = adds_log c.law_frames.ensures.unique;
  added = added_log c.law_frames.ensures.unique;
  grows = grows_log c.law_frames.ensures.unique;
  grown = grown_log c.law_frames.ensures.unique;
}
