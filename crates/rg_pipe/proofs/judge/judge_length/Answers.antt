use Rattle.std.proofs.Common.{rules, sym, ◌∙◌}
use Rattle.rg_pipe.proofs.Findings.{few_part, few_never}
use Rattle.rg_pipe.proofs.judge.judge_length.Goals as goal

pub returns-then-begins_length : goal.returns-then-begins_length
returns-then-begins_length c = few_part c.args.bytes.now c.requires (search rules) (sym c.begins_length.ensures ∙ c.if-begins_length.true)

pub returns-else-begins_length : goal.returns-else-begins_length
returns-else-begins_length c = few_never c.args.bytes.now c.requires (sym c.begins_length.ensures ∙ c.if-begins_length.false)
