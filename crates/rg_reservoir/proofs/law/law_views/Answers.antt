use Rattle.rg_reservoir.proofs.GrownViews.{gives, one, reads, just, stored, end, more, ungrown}
use Rattle.rg_reservoir.proofs.law.law_views.Goals as goal

pub returns : goal.returns
returns c = record {
  gives = gives c.law_frames.ensures.unique;
  one = one c.law_frames.ensures.unique;
  reads = reads;
  just = just c.law_frames.ensures.unique;
  stored = stored c.law_frames.ensures.unique;
  end = end c.law_frames.ensures.unique;
  more = more c.law_frames.ensures.unique;
  ungrown = ungrown c.law_frames.ensures.unique;
}
