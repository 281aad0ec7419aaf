use Rattle.rg_open.proofs.GrownTruth.{grows}
use Rattle.rg_open.proofs.Images.{empty_truthful, commits, begins, writes, loses}
use Rattle.rg_open.proofs.store.law_truthful.Goals as goal

pub returns : goal.returns
returns c = record { empty = empty_truthful; commits = commits; begins = begins; grows = grows; writes = writes; loses = loses }
