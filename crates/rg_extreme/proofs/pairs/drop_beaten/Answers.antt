use Rattle.std.proofs.Common.{sym, ◌∙◌, arith}
use Rattle.rg_agg.specs.Numbers.{value_of}
use Rattle.rg_extreme.specs.Sides.{beats}
use Rattle.rg_extreme.proofs.Additions.{popped}
use Rattle.rg_extreme.proofs.pairs.drop_beaten.Goals as goal

pub overflow_add-gone : goal.overflow_add-gone
overflow_add-gone g c =
    let v = c.beaten.invariant in
    let step = popped (beats c.args.side) (value_of c.args.number) c.in-Some.field-0-0 c.in-Some.count c.beaten.pairs.items c.pop_back.new.self.items c.in-Some.ensures.items v.tally (sym c.beats_last.ensures ∙ c.beaten-test.true) in
    omega (arith, v.sum, step.sum, c.requires.few)

pub beaten-preserved : goal.beaten-preserved
beaten-preserved g c =
    let v = c.beaten.invariant in
    let step = popped (beats c.args.side) (value_of c.args.number) c.in-Some.field-0-0 c.in-Some.count c.beaten.pairs.items c.pop_back.new.self.items c.in-Some.ensures.items v.tally (sym c.beats_last.ensures ∙ c.beaten-test.true) in
    record {
      tally = step.tally;
      kept = λ kind are. step.kept kind (v.kept kind are);
      same = step.same ∙ v.same;
      ticks = omega (arith, v.ticks, step.count);
      sum = omega (arith, v.sum, step.sum);
      fewer = omega (arith, v.fewer, step.count);
      whole = λ same. absurd (omega (arith, same, v.fewer, step.count));
      capacity = c.in-Some.ensures.capacity ∙ v.capacity;
    }
