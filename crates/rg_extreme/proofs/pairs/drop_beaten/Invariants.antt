use Rattle.std.proofs.Common.{◌≡◌, ◌+◌, ◌≤◌, length}
use Rattle.std.specs.VecDeque.{deque_capacity}
use Rattle.rg_agg.specs.Numbers.{value_of}
use Rattle.rg_agg.specs.Standing.{counts_sum}
use Rattle.rg_agg.specs.Stands.{IsNumber}
use Rattle.rg_event.specs.declared.value.Kind.{Kind}
use Rattle.rg_multiset.specs.Pairs.{AreOf, IsTally}
use Rattle.rg_extreme.specs.Deques.{with_value}
use Rattle.rg_extreme.specs.Sides.{beats}
use Rattle.rg_extreme.specs.States.{as_pairs}
use Rattle.rg_extreme.proofs.pairs.drop_beaten.Given as goal

abbrev pub invariant-beaten : goal.invariant-beaten
invariant-beaten g l = record {
  tally : IsTally IsNumber (beats l.side) (as_pairs l.pairs.items);
  kept : (kind : Kind) → AreOf IsNumber kind (as_pairs l.fn.pairs.items) → AreOf IsNumber kind (as_pairs l.pairs.items);
  same : with_value (beats l.side) (value_of l.number) (as_pairs l.pairs.items) ≡ with_value (beats l.side) (value_of l.number) (as_pairs l.fn.pairs.items);
  ticks : l.steps + length l.pairs.items ≡ l.fn.steps + length l.fn.pairs.items;
  sum : l.gone + counts_sum (as_pairs l.pairs.items) ≡ counts_sum (as_pairs l.fn.pairs.items);
  fewer : length l.pairs.items ≤ length l.fn.pairs.items;
  whole : length l.pairs.items ≡ length l.fn.pairs.items → l.pairs.items ≡ l.fn.pairs.items;
  capacity : deque_capacity l.pairs ≡ deque_capacity l.fn.pairs;
}

abbrev pub decreases-beaten : goal.decreases-beaten
decreases-beaten g l = length l.pairs.items
