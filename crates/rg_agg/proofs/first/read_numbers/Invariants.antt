use Rattle.std.proofs.Common.{◌≡◌, ◌-◌, ◌++◌, [], true, map, length}
use Rattle.rg_agg.specs.Held.{next_at, tagged_list}
use Rattle.rg_agg.specs.Numbers.{value_of}
use Rattle.rg_bytes.specs.Reading.{more_at}
use Rattle.rg_agg.specs.Stands.{are_alike}
use Rattle.rg_agg.proofs.first.read_numbers.Given as goal

abbrev pub invariant-loop-done : goal.invariant-loop-done
invariant-loop-done l = record {
  counted : length l.numbers.items ≡ l.done;
  to_come : more_at next_at [] l.count l.fn.from ≡ more_at next_at (map value_of l.numbers.items) (l.count - l.done) l.from;
  taken : l.fn.from ≡ tagged_list (map value_of l.numbers.items) ++ l.from;
  alike : are_alike (map value_of l.numbers.items) ≡ true;
}
