use Rattle.std.proofs.Common.{◌-◌, refl, arith}
use Rattle.rg_extreme.proofs.Ends.{count_most, raised_at}
use Rattle.rg_extreme.proofs.pairs.raise_last.Goals as goal

pub overflow_add-last : goal.overflow_add-last
overflow_add-last c =
    let deque = c.args.pairs.now in
    let some = c.in-Some.ensures.variant.0 refl in
    omega (arith, count_most deque.items (deque.len - 1) c.in-Some.last.now (omega (arith, some, deque.ok.0)) c.in-Some.ensures.value, c.requires)

pub returns-in-Some : goal.returns-in-Some
returns-in-Some c =
    let deque = c.args.pairs.now in
    raised_at deque.items (deque.len - 1) c.in-Some.last.now (omega (arith, deque.ok.0, c.in-Some.ensures.variant.0 refl)) c.in-Some.ensures.value
