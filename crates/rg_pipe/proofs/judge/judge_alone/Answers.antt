use Rattle.std.proofs.Common.{rules, inl, inr}
use Rattle.rg_pipe.proofs.Findings.{alone_word, alone_line, alone_never}
use Rattle.rg_pipe.proofs.judge.judge_alone.Goals as goal

pub returns-then-size-eq1 : goal.returns-then-size-eq1
returns-then-size-eq1 c = rw c.if-size-eq1.true alone_word

pub returns-then-size-lt-SHORTEST : goal.returns-then-size-lt-SHORTEST
returns-then-size-lt-SHORTEST c = alone_never _ (search rules) c.if-size-eq1.false (inl c.if-size-lt-SHORTEST.true)

pub returns-then-size-gt-LONGEST : goal.returns-then-size-gt-LONGEST
returns-then-size-gt-LONGEST c = alone_never _ (search rules) c.if-size-eq1.false (inr c.if-size-gt-LONGEST.true)

pub returns : goal.returns
returns c = alone_line _ c.if-size-lt-SHORTEST.false c.if-size-gt-LONGEST.false
