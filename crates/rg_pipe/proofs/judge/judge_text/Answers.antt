use Rattle.rg_pipe.proofs.Findings.{text_part}
use Rattle.rg_pipe.proofs.judge.judge_text.Goals as goal

pub returns-then-text-size : goal.returns-then-text-size
returns-then-text-size c = text_part _ _ _ c.requires.sized.0 c.requires.sized.1 c.if-text-size.true c.if-offset.false c.requires.no_lf
