use Rattle.rg_log.proofs.Entries as entries
use Rattle.rg_log.proofs.Folds.{legal}
use Rattle.rg_log.proofs.law_entries.Goals as goal

pub returns : goal.returns
returns c = record {
  first = entries.first;
  only_first = entries.only_first;
  chunk = entries.chunk_step;
  growth = entries.growth_step;
  neither = entries.no_step;
  front = entries.front;
  counted = entries.counted;
  legal = legal;
}
