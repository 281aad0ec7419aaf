use Rattle.std.proofs.Common.{◌≡◌, ◌-◌, ◌++◌, [], length, map}
use Rattle.std.specs.List.{All}
use Rattle.rg_bytes.specs.Reading.{more_at}
use Rattle.rg_event.specs.Codec.{IsValueOf}
use Rattle.rg_event.specs.declared.value.Kind.TheVariants.{Flag}
use Rattle.rg_column.specs.Values.{flag_byte, flag_at}
use Rattle.rg_column.proofs.values.take_flags.Given as goal

abbrev pub invariant-loop-done : goal.invariant-loop-done
invariant-loop-done l = record {
  counted : length l.values.items ≡ l.done;
  to_come : more_at (λ _. flag_at l.index) [] l.count l.fn.from ≡ more_at (λ _. flag_at l.index) l.values.items (l.count - l.done) l.from;
  taken : l.fn.from ≡ map flag_byte l.values.items ++ l.from;
  legal : All (IsValueOf Flag) l.values.items;
}
