use Rattle.std.proofs.Common.{◌≡◌, ◌≤◌, ◌-◌, length}
use Rattle.rg_bytes.specs.Known.{before}
use Rattle.rg_host.proofs.source.read_all.Given as goal

abbrev pub invariant-pieces : goal.invariant-pieces
invariant-pieces g l = record {
  taken : g.S.Source.left l.fn.src ≡ before l.all.items (g.S.Source.left l.src);
  within : length l.all.items ≤ l.max;
  later : g.S.Source.faults l.fn.src ≤ g.S.Source.faults l.src;
}

abbrev pub decreases-pieces : goal.decreases-pieces
decreases-pieces g l = l.max - length l.all.items
