use Rattle.rg_log.proofs.Filled.{own_events, unframed_events, one_for, of_for, rising_for, few_for, for_legal, next_for, grows_for, grown_for, schema_for}
use Rattle.rg_log.proofs.law_filled.Goals as goal

pub returns : goal.returns
returns c = record {
  own = own_events c.law_frames.ensures.unique;
  none = unframed_events c.law_frames.ensures.unique;
  one = one_for c.law_frames.ensures.unique;
  of = of_for;
  rising = λ shape defaults events bytes has. (rising_for shape defaults events bytes has, few_for shape defaults events bytes has);
  legal = for_legal c.law_frames.ensures.unique;
  next = next_for c.law_frames.ensures.defined;
  grows = grows_for c.law_frames.ensures.unique;
  grown = grown_for c.law_frames.ensures.unique;
  of_schema = schema_for;
}
