use Rattle.rg_checkpoint.proofs.Attaching.{sizes_reach}
use Rattle.rg_checkpoint.proofs.Lengthening.{grown_sizes, only_sizes}
use Rattle.rg_checkpoint.proofs.Saying.{says_push}
use Rattle.rg_checkpoint.proofs.SlotLaws.{slot_is_one, none_slot, base_slot, slot_base}
use Rattle.rg_checkpoint.proofs.slot_law.law_slots.Goals as goal

pub returns-clause-one : goal.returns-clause-one
returns-clause-one c = slot_is_one

pub returns-clause-none : goal.returns-clause-none
returns-clause-none c = none_slot

pub returns-clause-base : goal.returns-clause-base
returns-clause-base c = λ payload bytes checkpoint only. (slot_base payload bytes checkpoint only, base_slot payload bytes checkpoint only)

pub returns-clause-more : goal.returns-clause-more
returns-clause-more c = says_push

pub returns-clause-base_sizes : goal.returns-clause-base_sizes
returns-clause-base_sizes c = only_sizes

pub returns-clause-more_sizes : goal.returns-clause-more_sizes
returns-clause-more_sizes c = grown_sizes

pub returns-clause-reaches : goal.returns-clause-reaches
returns-clause-reaches c = sizes_reach
