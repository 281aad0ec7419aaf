use Rattle.std.proofs.Common.{ap, ◌∙◌, arith}
use Rattle.std.proofs.lemmas.Grind.{common_steps}
use Rattle.rg_agg.specs.declared.fault.StateFault.TheVariants.{Memory}
use Rattle.rg_bytes.proofs.Laws.{both_answers, memory_only}
use Rattle.rg_extreme.specs.Extremes.{extreme_at}
use Rattle.rg_extreme.specs.Sides.{beats}
use Rattle.rg_extreme.specs.States.{kept_by}
use Rattle.rg_extreme.proofs.ReadExtremes.{extreme_back}
use Rattle.rg_extreme.proofs.deque.Deque.read.Goals as goal

pub returns-in-Ok-clause-agrees : goal.returns-in-Ok-clause-agrees
returns-in-Ok-clause-agrees c = grind (arith, common_steps)

pub returns-in-Err-clause-agrees : goal.returns-in-Err-clause-agrees
returns-in-Err-clause-agrees c = grind (arith, common_steps)

pub returns-in-Ok-clause-reads_back : goal.returns-in-Ok-clause-reads_back
returns-in-Ok-clause-reads_back c = λ n kept pairs rest sound some stood.
    both_answers (extreme_at (beats c.args.side) c.args.tag c.args.from.now) (kept_by c.in-Ok.deque) (n, pairs) c.read_deque.new.from rest (returns-in-Ok-clause-agrees c)
    (ap (extreme_at (beats c.args.side) c.args.tag) stood ∙ extreme_back c.args.side c.args.tag n kept pairs rest sound some)

pub returns-in-Err-clause-reads_back : goal.returns-in-Err-clause-reads_back
returns-in-Err-clause-reads_back c = λ n kept pairs rest sound some stood.
    memory_only Memory (extreme_at (beats c.args.side) c.args.tag c.args.from.now) c.in-Err.fault ((n, pairs), rest) (returns-in-Err-clause-agrees c)
    (ap (extreme_at (beats c.args.side) c.args.tag) stood ∙ extreme_back c.args.side c.args.tag n kept pairs rest sound some)
