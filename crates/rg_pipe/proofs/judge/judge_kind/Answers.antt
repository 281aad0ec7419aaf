use Rattle.std.proofs.Common.{rules, inl, inr}
use Rattle.rg_pipe.proofs.Findings.{kind_never}
use Rattle.rg_pipe.proofs.judge.judge_kind.Goals as goal

pub returns-then-kind-ne1 : goal.returns-then-kind-ne1
returns-then-kind-ne1 c = kind_never _ _ _ (search rules) c.requires.within c.if-size-eq1.false (inl c.if-kind-ne1.true)

pub returns-then-size-lt-SHORTEST : goal.returns-then-size-lt-SHORTEST
returns-then-size-lt-SHORTEST c = kind_never _ _ _ (search rules) c.requires.within c.if-size-eq1.false (inr (inl c.if-size-lt-SHORTEST.true))

pub returns-then-size-gt-LONGEST : goal.returns-then-size-gt-LONGEST
returns-then-size-gt-LONGEST c = kind_never _ _ _ (search rules) c.requires.within c.if-size-eq1.false (inr (inr c.if-size-gt-LONGEST.true))
