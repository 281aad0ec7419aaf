use Rattle.std.proofs.Common.{ℕ, List, ap}
use Rattle.rg_agg.specs.Held.{lowest}
use Rattle.rg_event.specs.declared.value.Value.{Value}
use Rattle.rg_extreme.specs.States.{pairs_in}
use Rattle.rg_extreme.proofs.min.MinAggregate.decode.Goals as goal

pub returns-in-Ok-clause-reads_back : goal.returns-in-Ok-clause-reads_back
returns-in-Ok-clause-reads_back c = λ state rest some stood.
    let same = c.in-Ok.ensures.reads_back state.deque.size state.deque.kept (pairs_in state.deque) rest state.sound some stood in
    (ap (λ (kept : ℕ × List (Value × ℕ)). lowest kept.0 kept.1) same.0, same.1)

pub returns-in-Err-clause-reads_back : goal.returns-in-Err-clause-reads_back
returns-in-Err-clause-reads_back c = λ state rest some stood. c.in-Err.ensures.reads_back state.deque.size state.deque.kept (pairs_in state.deque) rest state.sound some stood
