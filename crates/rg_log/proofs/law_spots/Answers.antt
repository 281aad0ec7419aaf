use Rattle.rg_log.proofs.Naming as names
use Rattle.rg_log.proofs.Spelling as spots
use Rattle.rg_log.proofs.law_spots.Goals as goal

pub returns : goal.returns
returns c = record {
  stays = spots.spot_stays;
  stays_in = spots.spot_stays_in;
  none = spots.no_spot;
  none_in = names.none_in c.law_frames.ensures.unique;
  within = spots.spot_within;
  within_in = names.within_in c.law_frames.ensures.unique;
  each = spots.named_each;
  event = spots.spot_event;
  one_number = spots.one_number;
  end = spots.spot_end;
  end_of_last = spots.spot_end_of_last;
  named = names.named;
  named_in = names.named_in c.law_frames.ensures.unique;
}
