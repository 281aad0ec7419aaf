use Rattle.rg_row_audit.proofs.Listed.{all_right}
use Rattle.rg_row_audit.proofs.law.law_rows.Goals as goal

pub returns : goal.returns
returns c = all_right
