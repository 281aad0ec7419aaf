use Rattle.std.proofs.Common.{◌≡◌, ◌++◌, take, drop, length}
use Rattle.rg_query.specs.Printing.{doubled}
use Rattle.rg_query.proofs.printing.put_doubled.Given as goal

abbrev pub invariant-loop-byte : goal.invariant-loop-byte
invariant-loop-byte l = record {
  so_far : l.out.items ++ doubled (drop l.byte-index l.text) ≡ l.initial.out.items ++ doubled l.text;
  begun : take (length l.initial.out.items) l.out.items ≡ l.initial.out.items;
}
