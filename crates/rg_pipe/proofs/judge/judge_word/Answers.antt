use Rattle.rg_pipe.proofs.Findings.{word_commit, word_save, word_never}
use Rattle.rg_pipe.proofs.judge.judge_word.Goals as goal

pub returns-then-kind-eq2 : goal.returns-then-kind-eq2
returns-then-kind-eq2 c = word_commit _ c.if-kind-eq2.true

pub returns-then-kind-eq3 : goal.returns-then-kind-eq3
returns-then-kind-eq3 c = word_save _ c.if-kind-eq3.true

pub returns : goal.returns
returns c = word_never _ c.if-kind-eq2.false c.if-kind-eq3.false
