use Rattle.rg_serve_spec.proofs.Putting.{reads_some}
use Rattle.rg_serve_spec.proofs.law_put.Goals as goal

pub returns : goal.returns
returns c = reads_some
