use Rattle.std.proofs.Common.{◌-◌, ap, sym, ◌∙◌, refl, arith}
use Rattle.rg_agg.specs.Numbers.{value_of}
use Rattle.rg_multiset.specs.Reading.{comes_behind}
use Rattle.rg_extreme.specs.Sides.{beats}
use Rattle.rg_extreme.proofs.Ends.{last_kept_at}
use Rattle.rg_extreme.proofs.reading.is_behind.Goals as goal

pub returns-in-Some : goal.returns-in-Some
returns-in-Some c =
    let deque = c.args.pairs.now in
    let last = last_kept_at deque.items (deque.len - 1) c.in-Some.field-0.now (omega (arith, deque.ok.0, c.in-Some.ensures.variant.0 refl)) c.in-Some.ensures.lookup in
    c.may_follow.ensures ∙ ap (λ found. comes_behind (beats c.args.side) found (value_of c.args.number)) (sym last)
