use Rattle.std.proofs.Common.{rules}
use Rattle.rg_pipe.proofs.Findings.{offset_part, first_none}
use Rattle.rg_pipe.proofs.judge.judge_offset.Goals as goal

pub returns-in-empty : goal.returns-in-empty
returns-in-empty c = offset_part _ _ c.requires.sized.0 c.requires.sized.1 c.requires.short (search rules) (first_none c.args.rest.now c.in-empty.len_below)

pub returns-else-first-ge64 : goal.returns-else-first-ge64
returns-else-first-ge64 c = offset_part _ _ c.requires.sized.0 c.requires.sized.1 c.requires.short (search rules) c.if-first-ge64.false
